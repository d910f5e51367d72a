use Rattle.std.proofs.Common.{map, length}
use Rattle.core_tree.specs.Tree.{tree_of}
use Rattle.core_stack.specs.Holes.{scope}
use Rattle.core_eval.specs.inside.Steps.{Skips}
use Rattle.core_eval.proofs.enter.take_simple.Given as goal

-- the values so far, with the expressions that are left, gather what all do
abbrev pub invariant-parts : goal.invariant-parts
invariant-parts l = Skips (scope l.stack) l.fn.done (map tree_of l.fn.later) l.done (map tree_of l.left)

abbrev pub decreases-parts : goal.decreases-parts
decreases-parts l = length l.left
