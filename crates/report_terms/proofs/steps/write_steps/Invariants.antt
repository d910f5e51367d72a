use Rattle.world_model.specs.Asking.{program_of}
use Rattle.report_terms.proofs.StepLaws.{StepsSoFar}
use Rattle.report_terms.proofs.steps.write_steps.Given as goal

-- each step was enabled and its line written
abbrev pub invariant-loop-index : goal.invariant-loop-index
invariant-loop-index g l = StepsSoFar (program_of l.fn.world.program) l.fn.steps (g.W.Sink.contents l.fn.sink) (g.W.Sink.contents l.sink) (g.W.Sink.has_failed l.sink) (program_of l.world.program) l.world.history l.world.spent l.index
