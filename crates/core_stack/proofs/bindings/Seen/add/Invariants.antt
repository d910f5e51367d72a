use Rattle.std.proofs.Common.{◌≡◌, ◌++◌, ◌≤◌, take, map, length}
use Rattle.std.specs.Prelude.{reverse}
use Rattle.core_stack.specs.inside.Bindings.{binding_of}
use Rattle.core_stack.proofs.bindings.Seen.add.Given as goal

-- what was added, with what is left of the bindings, is all of both
abbrev pub invariant-loop-left : goal.invariant-loop-left
invariant-loop-left l =
    (l.left ≤ length l.bindings-inside.0.items) × (map binding_of l.self-inside.0.items ++ reverse (map binding_of (take l.left l.bindings-inside.0.items)) ≡ l.fn.self ++ l.bindings)

abbrev pub decreases-loop-left : goal.decreases-loop-left
decreases-loop-left l = l.left
