use Rattle.std.proofs.Common.{◌≡◌, ◌++◌, ◌≤◌, take, length}
use Rattle.core_stack.specs.inside.Frames.{holes_of}
use Rattle.core_stack.specs.inside.Layers.{holes_in}
use Rattle.core_stack.specs.Holes.{scope}
use Rattle.core_stack.proofs.stack.Stack.variables.Given as goal

-- what was seen, with what is in scope of what is left, is all that is in scope
abbrev pub invariant-loop-left : goal.invariant-loop-left
invariant-loop-left l =
    (l.left ≤ length l.self-inside.top.items) × (l.seen ++ scope (holes_of (take l.left l.self-inside.top.items) ++ holes_in l.self-inside.below) ≡ scope l.self)

abbrev pub decreases-loop-left : goal.decreases-loop-left
decreases-loop-left l = l.left
