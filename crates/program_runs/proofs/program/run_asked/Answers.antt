use Rattle.std.proofs.Common.{IfSome, subst, sym}
use Rattle.program_words.specs.declared.words.Words.{Words}
use Rattle.program_runs.specs.Program.{IsDone}
use Rattle.program_runs.proofs.RunLaws.{both_if_some}
use Rattle.program_runs.proofs.program.run_asked.Goals as goal

pub returns-in-Explore-clause-run : goal.returns-in-Explore-clause-run
returns-in-Explore-clause-run g c =
    subst (λ (asked : Words). IfSome (g.R.Source.remaining c.args.input.now) (λ bytes. IsDone asked bytes (g.W.Sink.contents c.args.output.now) (g.W.Sink.contents c.run_explore.new.sink) (g.W.Sink.has_failed c.run_explore.new.sink) c.run_explore.result)) (sym c.in-Explore.is)
    (both_if_some (g.R.Source.remaining c.args.input.now) _ _ c.run_explore.ensures.run c.run_explore.ensures.clean)

pub returns-in-Merge-clause-run : goal.returns-in-Merge-clause-run
returns-in-Merge-clause-run g c =
    subst (λ (asked : Words). IfSome (g.R.Source.remaining c.args.input.now) (λ bytes. IsDone asked bytes (g.W.Sink.contents c.args.output.now) (g.W.Sink.contents c.run_merge.new.sink) (g.W.Sink.has_failed c.run_merge.new.sink) c.run_merge.result)) (sym c.in-Merge.is)
    (both_if_some (g.R.Source.remaining c.args.input.now) _ _ c.run_merge.ensures.run c.run_merge.ensures.tree)
