use Rattle.std.proofs.Common.{◌≡◌, length}
use Rattle.core_stack.specs.inside.Layers.{holes_in}
use Rattle.core_stack.specs.Holes.{scope}
use Rattle.core_stack.specs.Matching.{lookup}
use Rattle.core_stack.proofs.layers.Layers.lookup.Given as goal

-- the variable is not kept above what is left
abbrev pub invariant-loop-left : goal.invariant-loop-left
invariant-loop-left l = lookup l.name (scope (holes_in l.left)) ≡ lookup l.name (scope (holes_in l.fn.self))

abbrev pub decreases-loop-left : goal.decreases-loop-left
decreases-loop-left l = length (holes_in l.left)
