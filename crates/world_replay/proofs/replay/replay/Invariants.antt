use Rattle.world_model.specs.Asking.{program_of}
use Rattle.world_replay.proofs.ReplayLaws.{SoFar}
use Rattle.world_replay.proofs.replay.replay.Given as goal

-- each step was enabled and its line written
abbrev pub invariant-loop-index : goal.invariant-loop-index
invariant-loop-index g l = SoFar (program_of l.fn.program) l.fn.steps (g.W.Sink.contents l.fn.sink) (g.W.Sink.contents l.sink) (g.W.Sink.has_failed l.sink) (program_of l.world.program) l.world.history l.world.spent l.index
