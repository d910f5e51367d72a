use Rattle.std.proofs.Common.{ℕ, List, ap, subst, ◌∙◌}
use Rattle.std.specs.Prelude.{Err}
use Rattle.std.proofs.lemmas.Result.{err_from_is_err_and}
use Rattle.core_reader.specs.ModuleText.{SpellsModule}
use Rattle.core_reader.specs.Refusal.{IsRefusalOf}
use Rattle.tree_coverage.specs.Jobs.{Job}
use Rattle.search_job_lines.specs.JobText.{text_of_jobs}
use Rattle.term_core.specs.Stream.{BreaksOff, WritesAll}
use Rattle.program_runs.specs.declared.verdict.RunFault.TheVariants as run
use Rattle.program_runs.proofs.JobLaws.{list_broken, listed, no_list, no_room}
use Rattle.program_runs.proofs.jobs.run_jobs.Goals as goal

pub returns-in_err-program-clause-run : goal.returns-in_err-program-clause-run
returns-in_err-program-clause-run g c =
    let p = err_from_is_err_and c.from_residual-in_err-program.result c.from_residual-in_err-program.ensures.1 in
    no_list (g.R.Source.remaining c.args.source.now) c.in_ok-text.text.items c.args.depth (g.W.Sink.contents c.args.sink.now) (g.W.Sink.has_failed c.args.sink.now)
    c.in_err-program.field-0.0 c.from_residual-in_err-program.result (p.1 ∙ ap Err p.2) c.in_ok-text.ensures.input
    (subst (λ (t : List ℕ). IsRefusalOf t c.in_err-program.field-0.0) c.deref.ensures.value c.in_err-program.ensures.refusal) c.requires.writable

pub returns-in_err-jobs-clause-run : goal.returns-in_err-jobs-clause-run
returns-in_err-jobs-clause-run g c =
    let p = err_from_is_err_and c.from_residual-in_err-jobs.result c.from_residual-in_err-jobs.ensures.1 in
    no_room (g.R.Source.remaining c.args.source.now) c.in_ok-text.text.items c.args.depth (g.W.Sink.contents c.args.sink.now) (g.W.Sink.has_failed c.args.sink.now)
    c.in_ok-program.program c.from_residual-in_err-jobs.result (p.1 ∙ ap Err (p.2 ∙ ap run.Job c.in_err-jobs.ensures.memory)) c.in_ok-text.ensures.input
    (subst (λ (t : List ℕ). SpellsModule t c.in_ok-program.program) c.deref.ensures.value c.in_ok-program.ensures.spelt) c.requires.writable

pub returns-in_err-write_lines-clause-run : goal.returns-in_err-write_lines-clause-run
returns-in_err-write_lines-clause-run g c =
    let p = err_from_is_err_and c.from_residual-in_err-write_lines.result c.from_residual-in_err-write_lines.ensures.1 in
    let old = g.W.Sink.contents c.args.sink.now in
    let new = g.W.Sink.contents c.write_lines.new.sink in
    let failed = g.W.Sink.has_failed c.write_lines.new.sink in
    list_broken (g.R.Source.remaining c.args.source.now) c.in_ok-text.text.items c.args.depth old new failed
    c.in_ok-program.program c.from_residual-in_err-write_lines.result (p.1 ∙ ap Err p.2) c.in_ok-text.ensures.input
    (subst (λ (t : List ℕ). SpellsModule t c.in_ok-program.program) c.deref.ensures.value c.in_ok-program.ensures.spelt)
    (subst (λ (jobs : List Job). BreaksOff old new failed (text_of_jobs jobs)) (c.as_slice.ensures.value ∙ c.in_ok-jobs.ensures.jobs) c.in_err-write_lines.ensures.written)

pub returns-clause-run : goal.returns-clause-run
returns-clause-run g c =
    let old = g.W.Sink.contents c.args.sink.now in
    let new = g.W.Sink.contents c.write_lines.new.sink in
    let failed = g.W.Sink.has_failed c.write_lines.new.sink in
    listed (g.R.Source.remaining c.args.source.now) c.in_ok-text.text.items c.args.depth old new failed
    c.in_ok-program.program c.in_ok-text.ensures.input
    (subst (λ (t : List ℕ). SpellsModule t c.in_ok-program.program) c.deref.ensures.value c.in_ok-program.ensures.spelt)
    (subst (λ (jobs : List Job). WritesAll old new failed (text_of_jobs jobs)) (c.as_slice.ensures.value ∙ c.in_ok-jobs.ensures.jobs) c.in_ok-write_lines.ensures.written)
