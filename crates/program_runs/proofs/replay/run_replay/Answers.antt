use Rattle.std.proofs.Common.{◌≡◌, ℕ, List, ap, subst, ◌∙◌}
use Rattle.std.specs.Prelude.{Ok, Err}
use Rattle.std.proofs.lemmas.Result.{err_from_is_err_and}
use Rattle.core_reader.specs.ModuleText.{SpellsModule}
use Rattle.core_reader.specs.Refusal.{IsRefusalOf}
use Rattle.term_core.specs.Schedule.{AreLawful}
use Rattle.term_core.specs.Text.{text_of_schedule}
use Rattle.term_core.specs.declared.step.Step.{Step}
use Rattle.program_runs.specs.Replayed.{IsBadSchedule}
use Rattle.world_model.specs.Asking.{program_of}
use Rattle.world_replay.specs.Replay.{Replays}
use Rattle.program_runs.proofs.ReplayLaws.{module_refused, schedule_refused, replay_stopped, replayed, bad_by}
use Rattle.program_runs.proofs.replay.run_replay.Goals as goal

pub returns-in_err-program-clause-run : goal.returns-in_err-program-clause-run
returns-in_err-program-clause-run g c =
    let p = err_from_is_err_and c.from_residual-in_err-program.result c.from_residual-in_err-program.ensures.1 in
    module_refused (g.R.Source.remaining c.args.source.now) c.in_ok-text.text.items c.args.schedule.now (g.W.Sink.contents c.args.sink.now) (g.W.Sink.has_failed c.args.sink.now)
    c.in_err-program.field-0.0 c.from_residual-in_err-program.result (p.1 ∙ ap Err p.2) c.in_ok-text.ensures.input
    (subst (λ (t : List ℕ). IsRefusalOf t c.in_err-program.field-0.0) c.deref.ensures.value c.in_err-program.ensures.refusal) c.requires.writable

pub returns-in_err-steps-clause-run : goal.returns-in_err-steps-clause-run
returns-in_err-steps-clause-run g c =
    let p = err_from_is_err_and c.from_residual-in_err-steps.result c.from_residual-in_err-steps.ensures.1 in
    schedule_refused (g.R.Source.remaining c.args.source.now) c.in_ok-text.text.items c.args.schedule.now (g.W.Sink.contents c.args.sink.now) (g.W.Sink.has_failed c.args.sink.now)
    c.in_ok-program.program c.in_err-steps.field-0.0 c.from_residual-in_err-steps.result (p.1 ∙ ap Err p.2) c.in_ok-text.ensures.input
    (subst (λ (t : List ℕ). SpellsModule t c.in_ok-program.program) c.deref.ensures.value c.in_ok-program.ensures.spelt)
    (subst (λ (w : List ℕ). IsBadSchedule w c.in_err-steps.field-0.0) c.as_bytes.ensures.value (bad_by c.as_bytes.result.now c.in_err-steps.field-0.0 (λ at e. c.in_err-steps.ensures.bad_step at (ap Err e))))
    c.requires.writable

pub returns-in_err-replay_and_flush-clause-run : goal.returns-in_err-replay_and_flush-clause-run
returns-in_err-replay_and_flush-clause-run g c =
    let p = err_from_is_err_and c.from_residual-in_err-replay_and_flush.result c.from_residual-in_err-replay_and_flush.ensures.1 in
    let old = g.W.Sink.contents c.args.sink.now in
    let new = g.W.Sink.contents c.replay_and_flush.new.sink in
    let failed = g.W.Sink.has_failed c.replay_and_flush.new.sink in
    replay_stopped (g.R.Source.remaining c.args.source.now) c.in_ok-text.text.items c.args.schedule.now old new failed
    c.in_ok-program.program c.in_ok-steps.steps.items c.in_err-replay_and_flush.field-0.0 c.from_residual-in_err-replay_and_flush.result (p.1 ∙ ap Err p.2) c.in_ok-text.ensures.input
    (subst (λ (t : List ℕ). SpellsModule t c.in_ok-program.program) c.deref.ensures.value c.in_ok-program.ensures.spelt)
    (subst (λ (w : List ℕ). AreLawful c.in_ok-steps.steps.items × (w ≡ text_of_schedule c.in_ok-steps.steps.items)) c.as_bytes.ensures.value c.in_ok-steps.ensures.ok)
    (subst (λ (ss : List Step). Replays (program_of c.in_ok-program.program) ss old new failed (Err c.in_err-replay_and_flush.field-0.0)) c.deref-2.ensures.value c.in_err-replay_and_flush.ensures.replay)

pub returns-clause-run : goal.returns-clause-run
returns-clause-run g c =
    let old = g.W.Sink.contents c.args.sink.now in
    let new = g.W.Sink.contents c.replay_and_flush.new.sink in
    let failed = g.W.Sink.has_failed c.replay_and_flush.new.sink in
    replayed (g.R.Source.remaining c.args.source.now) c.in_ok-text.text.items c.args.schedule.now old new failed
    c.in_ok-program.program c.in_ok-steps.steps.items c.in_ok-text.ensures.input
    (subst (λ (t : List ℕ). SpellsModule t c.in_ok-program.program) c.deref.ensures.value c.in_ok-program.ensures.spelt)
    (subst (λ (w : List ℕ). AreLawful c.in_ok-steps.steps.items × (w ≡ text_of_schedule c.in_ok-steps.steps.items)) c.as_bytes.ensures.value c.in_ok-steps.ensures.ok)
    (subst (λ (ss : List Step). Replays (program_of c.in_ok-program.program) ss old new failed (Ok tt)) c.deref-2.ensures.value c.in_ok-replay_and_flush.ensures.replay)
