use Rattle.std.proofs.Common.{◌≡◌, ◌++◌, map, length}
use Rattle.core_stack.specs.inside.Frames.{hole_of}
use Rattle.core_stack.specs.inside.Layers.{holes_in, holes_onto}
use Rattle.core_stack.proofs.layers.Layers.with_all.Given as goal

-- the frames that are left, the innermost first, on top of the layers so far are all
abbrev pub invariant-frames : goal.invariant-frames
invariant-frames l = map hole_of l.frames.items ++ holes_in l.layers ≡ holes_onto l.fn.frames.items l.fn.self

abbrev pub decreases-frames : goal.decreases-frames
decreases-frames l = length l.frames.items
