use Rattle.std.proofs.Common.{◌∙◌, ◌++◌, List, map, ap}
use Rattle.core_stack.specs.Holes.{Hole}
use Rattle.core_stack.specs.inside.Frames.{hole_of}
use Rattle.core_stack.specs.inside.Layers.{holes_in}
use Rattle.core_stack.proofs.Binding.{map-reverse}
use Rattle.core_stack.proofs.layers.Layers.with_all.Goals as goal

pub frames-init : goal.frames-init
frames-init c = ap (λ (hs : List Hole). hs ++ holes_in c.args.self) (ap (map hole_of) c.reverse.ensures.items ∙ map-reverse hole_of c.args.frames.now.items)
