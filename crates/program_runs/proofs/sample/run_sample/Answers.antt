use Rattle.std.proofs.Common.{ℕ, List, ap, subst, ◌∙◌}
use Rattle.std.specs.Prelude.{Err}
use Rattle.std.proofs.lemmas.Result.{err_from_is_err_and}
use Rattle.core_reader.specs.ModuleText.{SpellsModule}
use Rattle.core_reader.specs.Refusal.{IsRefusalOf}
use Rattle.tree_excuses.specs.Excuses.{excuses_in}
use Rattle.program_runs.specs.declared.verdict.RunFault.TheVariants as run
use Rattle.program_runs.proofs.SampleLaws.{broken, module_refused, not_followed, reported}
use Rattle.program_runs.proofs.sample.run_sample.Goals as goal

pub returns-in_err-program-clause-run : goal.returns-in_err-program-clause-run
returns-in_err-program-clause-run g c =
    let p = err_from_is_err_and c.from_residual-in_err-program.result c.from_residual-in_err-program.ensures.1 in
    module_refused (g.R.Source.remaining c.args.source.now) c.in_ok-text.text.items c.args.samples.now (excuses_in c.args.excuses.now) c.args.printed (g.W.Sink.contents c.args.sink.now) (g.W.Sink.has_failed c.args.sink.now)
    c.in_err-program.field-0.0 c.from_residual-in_err-program.result (p.1 ∙ ap Err p.2) c.in_ok-text.ensures.input
    (subst (λ (t : List ℕ). IsRefusalOf t c.in_err-program.field-0.0) c.deref.ensures.value c.in_err-program.ensures.refusal) c.requires.writable

pub returns-in_err-found-clause-run : goal.returns-in_err-found-clause-run
returns-in_err-found-clause-run g c =
    let p = err_from_is_err_and c.from_residual-in_err-found.result c.from_residual-in_err-found.ensures.1 in
    not_followed (g.R.Source.remaining c.args.source.now) c.in_ok-text.text.items c.args.samples.now (excuses_in c.args.excuses.now) c.args.printed (g.W.Sink.contents c.args.sink.now) (g.W.Sink.has_failed c.args.sink.now)
    c.in_ok-program.program c.from_residual-in_err-found.result (p.1 ∙ ap Err (p.2 ∙ ap run.Explore c.in_err-found.ensures.memory)) c.in_ok-text.ensures.input
    (subst (λ (t : List ℕ). SpellsModule t c.in_ok-program.program) c.deref.ensures.value c.in_ok-program.ensures.spelt) c.requires.writable

pub returns-in_err-print_and_flush-clause-run : goal.returns-in_err-print_and_flush-clause-run
returns-in_err-print_and_flush-clause-run g c =
    let p = err_from_is_err_and c.from_residual-in_err-print_and_flush.result c.from_residual-in_err-print_and_flush.ensures.1 in
    broken (g.R.Source.remaining c.args.source.now) c.in_ok-text.text.items c.args.samples.now (excuses_in c.args.excuses.now) c.args.printed (g.W.Sink.contents c.args.sink.now) (g.W.Sink.contents c.print_and_flush.new.sink) (g.W.Sink.has_failed c.print_and_flush.new.sink)
    c.in_ok-program.program c.in_ok-found.found c.in_err-print_and_flush.field-0.0 c.from_residual-in_err-print_and_flush.result (p.1 ∙ ap Err p.2) c.in_ok-text.ensures.input
    (subst (λ (t : List ℕ). SpellsModule t c.in_ok-program.program) c.deref.ensures.value c.in_ok-program.ensures.spelt)
    c.in_ok-found.ensures.found c.in_err-print_and_flush.ensures.written

pub returns-clause-run : goal.returns-clause-run
returns-clause-run g c =
    reported (g.R.Source.remaining c.args.source.now) c.in_ok-text.text.items c.args.samples.now (excuses_in c.args.excuses.now) c.args.printed (g.W.Sink.contents c.args.sink.now) (g.W.Sink.contents c.print_and_flush.new.sink) (g.W.Sink.has_failed c.print_and_flush.new.sink)
    c.in_ok-program.program c.in_ok-found.found c.verdict_of.result c.in_ok-text.ensures.input
    (subst (λ (t : List ℕ). SpellsModule t c.in_ok-program.program) c.deref.ensures.value c.in_ok-program.ensures.spelt)
    c.in_ok-found.ensures.found c.in_ok-print_and_flush.ensures.written c.verdict_of.ensures
