use Rattle.std.proofs.Common.{◌≡◌, ◌++◌, length}
use Rattle.core_stack.specs.inside.Layers.{holes_in}
use Rattle.core_stack.specs.Holes.{scope}
use Rattle.core_stack.proofs.layers.Layers.see.Given as goal

-- what was added, with what is in scope of what is left, is all of both
abbrev pub invariant-loop-left : goal.invariant-loop-left
invariant-loop-left l = l.seen ++ scope (holes_in l.left) ≡ l.fn.seen ++ scope (holes_in l.fn.self)

abbrev pub decreases-loop-left : goal.decreases-loop-left
decreases-loop-left l = length (holes_in l.left)
