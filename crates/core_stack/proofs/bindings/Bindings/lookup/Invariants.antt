use Rattle.std.proofs.Common.{◌≡◌, ◌≤◌, take, map, length}
use Rattle.std.specs.Prelude.{reverse}
use Rattle.core_stack.specs.inside.Bindings.{binding_of}
use Rattle.core_stack.specs.Matching.{lookup}
use Rattle.core_stack.proofs.bindings.Bindings.lookup.Given as goal

-- the variable is not bound further in than what is left
abbrev pub invariant-loop-left : goal.invariant-loop-left
invariant-loop-left l =
    (l.left ≤ length l.self-inside.0.items) × (lookup l.name (reverse (map binding_of (take l.left l.self-inside.0.items))) ≡ lookup l.name l.self)

abbrev pub decreases-loop-left : goal.decreases-loop-left
decreases-loop-left l = l.left
