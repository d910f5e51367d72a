use Rattle.std.proofs.Common.{ℕ, List, ap, subst, ◌∙◌, arith}
use Rattle.std.specs.Prelude.{Err}
use Rattle.std.proofs.lemmas.Result.{err_from_is_err_and}
use Rattle.tree_excuses.specs.Excuses.{excuses_in}
use Rattle.world_identities.specs.Identities.{flags_in}
use Rattle.report_reader.specs.Merged.{AreReportsOf}
use Rattle.program_runs.specs.MergeRuns.{AreNoReports, depth_above}
use Rattle.program_runs.proofs.MergeLaws.{AreReadAs, broken, comes, merged, no_reports}
use Rattle.program_runs.proofs.merge.run_merge.Goals as goal

pub returns-in_err-outcome-clause-run : goal.returns-in_err-outcome-clause-run
returns-in_err-outcome-clause-run g c =
    let p = err_from_is_err_and c.from_residual-in_err-outcome.result c.from_residual-in_err-outcome.ensures.1 in
    no_reports (g.R.Source.remaining c.args.source.now) c.in_ok-text.text.items c.args.depth c.args.at (flags_in c.args.flags) (excuses_in c.args.excuses.now) (g.W.Sink.contents c.args.sink.now) (g.W.Sink.has_failed c.args.sink.now)
    c.in_err-outcome.field-0.0 c.from_residual-in_err-outcome.result (p.1 ∙ ap Err p.2) c.in_ok-text.ensures.input
    (subst (λ (t : List ℕ). AreNoReports t c.args.depth c.args.at (flags_in c.args.flags) (excuses_in c.args.excuses.now) c.in_err-outcome.field-0.0) c.deref.ensures.value
    (record { line = c.in_err-outcome.ensures.line; first_bad = rw c.depth_above.ensures at c.in_err-outcome.ensures.first_bad; only = rw c.depth_above.ensures at c.in_err-outcome.ensures.only }))
    c.requires.writable

pub returns-in_err-write_and_flush-clause-run : goal.returns-in_err-write_and_flush-clause-run
returns-in_err-write_and_flush-clause-run g c =
    let p = err_from_is_err_and c.from_residual-in_err-write_and_flush.result c.from_residual-in_err-write_and_flush.ensures.1 in
    broken (g.R.Source.remaining c.args.source.now) c.in_ok-text.text.items c.args.depth c.args.at (flags_in c.args.flags) (excuses_in c.args.excuses.now) (g.W.Sink.contents c.args.sink.now) (g.W.Sink.contents c.write_and_flush.new.sink) (g.W.Sink.has_failed c.write_and_flush.new.sink)
    c.in_ok-outcome.outcome c.from_residual-in_err-write_and_flush.result (p.1 ∙ ap Err p.2) c.in_ok-text.ensures.input
    (subst (λ (t : List ℕ). AreReportsOf (depth_above c.args.at) c.args.depth (flags_in c.args.flags) (excuses_in c.args.excuses.now) t c.in_ok-outcome.outcome) c.deref.ensures.value (rw c.depth_above.ensures at c.in_ok-outcome.ensures.ok))
    c.in_err-write_and_flush.ensures.written

pub returns-clause-run : goal.returns-clause-run
returns-clause-run g c =
    merged (g.R.Source.remaining c.args.source.now) c.in_ok-text.text.items c.args.depth c.args.at (flags_in c.args.flags) (excuses_in c.args.excuses.now) (g.W.Sink.contents c.args.sink.now) (g.W.Sink.contents c.write_and_flush.new.sink) (g.W.Sink.has_failed c.write_and_flush.new.sink)
    c.in_ok-outcome.outcome c.verdict_of.result c.in_ok-text.ensures.input
    (subst (λ (t : List ℕ). AreReportsOf (depth_above c.args.at) c.args.depth (flags_in c.args.flags) (excuses_in c.args.excuses.now) t c.in_ok-outcome.outcome) c.deref.ensures.value (rw c.depth_above.ensures at c.in_ok-outcome.ensures.ok))
    c.in_ok-write_and_flush.ensures.written c.verdict_of.ensures

pub returns-clause-tree : goal.returns-clause-tree
returns-clause-tree g c =
    comes (g.R.Source.remaining c.args.source.now) c.in_ok-text.text.items c.args.depth c.args.at (flags_in c.args.flags) (excuses_in c.args.excuses.now) (g.W.Sink.contents c.args.sink.now) (g.W.Sink.contents c.write_and_flush.new.sink) (g.W.Sink.has_failed c.write_and_flush.new.sink)
    c.in_ok-outcome.outcome c.verdict_of.result (omega (arith, c.ranges.depth)) c.in_ok-text.ensures.input
    (subst (λ (t : List ℕ). AreReadAs t c.args.depth c.args.at (flags_in c.args.flags) (excuses_in c.args.excuses.now) c.in_ok-outcome.outcome) c.deref.ensures.value (rw c.depth_above.ensures at c.in_ok-outcome.ensures.only))
    c.in_ok-write_and_flush.ensures.written c.verdict_of.ensures
