use Rattle.std.proofs.Common.{◌<◌, length}
use Rattle.core_stack.specs.inside.Layers.{holes_in}
use Rattle.core_stack.proofs.+drop.Given as goal

-- what is left to drop is less than all of it
abbrev pub invariant-layers::Layer::drop-loop-below : goal.invariant-layers::Layer::drop-loop-below
invariant-layers::Layer::drop-loop-below l = length (holes_in l.below) < length l.fn.self
