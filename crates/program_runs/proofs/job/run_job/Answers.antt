use Rattle.std.proofs.Common.{◌≡◌, ℕ, List, ap, subst, ◌∙◌}
use Rattle.std.specs.Prelude.{Err}
use Rattle.std.proofs.lemmas.Result.{err_from_is_err_and}
use Rattle.core_reader.specs.ModuleText.{SpellsModule}
use Rattle.core_reader.specs.Refusal.{IsRefusalOf}
use Rattle.tree_excuses.specs.Excuses.{excuses_in}
use Rattle.search_job_lines.specs.Faults.{IsJobFault}
use Rattle.search_job_lines.specs.Reading.{IsJobLine}
use Rattle.search_crew.specs.Outcomes.{IsOutcomeOf}
use Rattle.search_jobs.specs.Explorations.{ExplorationSeen, exploration_in, explored_by}
use Rattle.program_runs.proofs.JobLaws.{broken, no_job, no_module, not_begun, reported}
use Rattle.program_runs.proofs.job.run_job.Goals as goal

pub returns-in_err-program-clause-run : goal.returns-in_err-program-clause-run
returns-in_err-program-clause-run g c =
    let p = err_from_is_err_and c.from_residual-in_err-program.result c.from_residual-in_err-program.ensures.1 in
    no_module (g.R.Source.remaining c.args.source.now) c.in_ok-text.text.items c.args.line.now c.args.options.now (excuses_in c.args.excuses.now) (g.W.Sink.contents c.args.sink.now) (g.W.Sink.has_failed c.args.sink.now)
    c.in_err-program.field-0.0 c.from_residual-in_err-program.result (p.1 ∙ ap Err p.2) c.in_ok-text.ensures.input
    (subst (λ (t : List ℕ). IsRefusalOf t c.in_err-program.field-0.0) c.deref.ensures.value c.in_err-program.ensures.refusal) c.requires.writable

pub returns-in_err-job-clause-run : goal.returns-in_err-job-clause-run
returns-in_err-job-clause-run g c =
    let p = err_from_is_err_and c.from_residual-in_err-job.result c.from_residual-in_err-job.ensures.1 in
    no_job (g.R.Source.remaining c.args.source.now) c.in_ok-text.text.items c.args.line.now c.args.options.now (excuses_in c.args.excuses.now) (g.W.Sink.contents c.args.sink.now) (g.W.Sink.has_failed c.args.sink.now)
    c.in_ok-program.program c.in_err-job.field-0.0 c.from_residual-in_err-job.result (p.1 ∙ ap Err p.2) c.in_ok-text.ensures.input
    (subst (λ (t : List ℕ). SpellsModule t c.in_ok-program.program) c.deref.ensures.value c.in_ok-program.ensures.spelt)
    (subst (λ (e : ExplorationSeen). IsJobFault e c.args.line.now c.in_err-job.field-0.0) c.of-exploration.ensures
    (subst (λ (t : List ℕ). IsJobFault (exploration_in c.of-exploration.result) t c.in_err-job.field-0.0) c.as_bytes.ensures.value c.in_err-job.ensures.fault))
    c.requires.writable

pub returns-in_err-outcome-clause-run : goal.returns-in_err-outcome-clause-run
returns-in_err-outcome-clause-run g c =
    let p = err_from_is_err_and c.from_residual-in_err-outcome.result c.from_residual-in_err-outcome.ensures.1 in
    not_begun (g.R.Source.remaining c.args.source.now) c.in_ok-text.text.items c.args.line.now c.args.options.now (excuses_in c.args.excuses.now) (g.W.Sink.contents c.args.sink.now) (g.W.Sink.has_failed c.args.sink.now)
    c.in_ok-program.program c.in_err-outcome.field-0.0 c.from_residual-in_err-outcome.result (p.1 ∙ ap Err p.2) c.in_ok-text.ensures.input
    (subst (λ (t : List ℕ). SpellsModule t c.in_ok-program.program) c.deref.ensures.value c.in_ok-program.ensures.spelt) c.requires.writable

pub returns-in_err-write_and_flush-clause-run : goal.returns-in_err-write_and_flush-clause-run
returns-in_err-write_and_flush-clause-run g c =
    let p = err_from_is_err_and c.from_residual-in_err-write_and_flush.result c.from_residual-in_err-write_and_flush.ensures.1 in
    let at : c.in_ok-job.job.exploration ≡ explored_by c.in_ok-program.program c.args.options.now = c.in_ok-job.ensures.exploration ∙ c.of-exploration.ensures in
    broken (g.R.Source.remaining c.args.source.now) c.in_ok-text.text.items c.args.line.now c.args.options.now (excuses_in c.args.excuses.now) (g.W.Sink.contents c.args.sink.now) (g.W.Sink.contents c.write_and_flush.new.sink) (g.W.Sink.has_failed c.write_and_flush.new.sink)
    c.in_ok-program.program c.in_ok-job.job.name c.in_ok-outcome.outcome c.from_residual-in_err-write_and_flush.result (p.1 ∙ ap Err p.2) c.in_ok-text.ensures.input
    (subst (λ (t : List ℕ). SpellsModule t c.in_ok-program.program) c.deref.ensures.value c.in_ok-program.ensures.spelt)
    (subst (λ (e : ExplorationSeen). IsJobLine e c.args.line.now c.in_ok-job.job.name) c.of-exploration.ensures
    (subst (λ (t : List ℕ). IsJobLine (exploration_in c.of-exploration.result) t c.in_ok-job.job.name) c.as_bytes.ensures.value c.in_ok-job.ensures.read))
    (subst (λ (e : ExplorationSeen). IsOutcomeOf e c.in_ok-job.job.name c.args.options.now.nodes c.in_ok-outcome.outcome) at c.in_ok-outcome.ensures.of_job)
    c.in_err-write_and_flush.ensures.written

pub returns-clause-run : goal.returns-clause-run
returns-clause-run g c =
    let at : c.in_ok-job.job.exploration ≡ explored_by c.in_ok-program.program c.args.options.now = c.in_ok-job.ensures.exploration ∙ c.of-exploration.ensures in
    reported (g.R.Source.remaining c.args.source.now) c.in_ok-text.text.items c.args.line.now c.args.options.now (excuses_in c.args.excuses.now) (g.W.Sink.contents c.args.sink.now) (g.W.Sink.contents c.write_and_flush.new.sink) (g.W.Sink.has_failed c.write_and_flush.new.sink)
    c.in_ok-program.program c.in_ok-job.job.name c.in_ok-outcome.outcome c.verdict_of.result c.in_ok-text.ensures.input
    (subst (λ (t : List ℕ). SpellsModule t c.in_ok-program.program) c.deref.ensures.value c.in_ok-program.ensures.spelt)
    (subst (λ (e : ExplorationSeen). IsJobLine e c.args.line.now c.in_ok-job.job.name) c.of-exploration.ensures
    (subst (λ (t : List ℕ). IsJobLine (exploration_in c.of-exploration.result) t c.in_ok-job.job.name) c.as_bytes.ensures.value c.in_ok-job.ensures.read))
    (subst (λ (e : ExplorationSeen). IsOutcomeOf e c.in_ok-job.job.name c.args.options.now.nodes c.in_ok-outcome.outcome) at c.in_ok-outcome.ensures.of_job)
    c.in_ok-write_and_flush.ensures.written c.verdict_of.ensures
