use Rattle.std.proofs.Common.{◌≡◌, length}
use Rattle.core_stack.specs.inside.Bare.{bare_holes}
use Rattle.core_stack.specs.inside.Layers.{holes_in}
use Rattle.core_stack.proofs.layers.Layers.is_same.Given as goal

-- where what is left is the same, all is
abbrev pub invariant-loop-left : goal.invariant-loop-left
invariant-loop-left l =
    bare_holes (holes_in l.left) ≡ bare_holes (holes_in l.right) → bare_holes (holes_in l.fn.self) ≡ bare_holes (holes_in l.fn.other)

abbrev pub decreases-loop-left : goal.decreases-loop-left
decreases-loop-left l = length (holes_in l.left)
