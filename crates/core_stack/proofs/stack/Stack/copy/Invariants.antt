use Rattle.std.proofs.Common.{◌≡◌, ◌++◌, drop, map}
use Rattle.std.specs.Prelude.{reverse}
use Rattle.core_stack.specs.inside.Frames.{hole_of}
use Rattle.core_stack.specs.inside.Layers.{holes_in}
use Rattle.core_stack.proofs.stack.Stack.copy.Given as goal

-- the copied frames, with those that are left, are the stack
abbrev pub invariant-loop-frame : goal.invariant-loop-frame
invariant-loop-frame l = reverse (map hole_of l.top.items ++ map hole_of (drop l.frame-index l.frame-items)) ++ holes_in l.self-inside.below ≡ l.self
