-- The frames that copies of a stack share, as contracts see them.
use Rattle.std.specs.Prelude.{List, [], ◌++◌}
use Rattle.core_stack.specs.declared.frame.Frame.{Frame}
use Rattle.core_stack.specs.declared.layers.Layers.{Layers}
use Rattle.core_stack.specs.declared.layers.Layers.TheVariants.{End, On}
use Rattle.core_stack.specs.Holes.{Hole}
use Rattle.core_stack.specs.inside.Frames.{holes_of}

-- what layers leave out, from the top down
abbrev pub holes_in : Layers → List Hole
holes_in End = []
holes_in (On layer) = layer.value

-- what frames on top of layers leave out, from the top down
abbrev pub holes_onto : List Frame → Layers → List Hole
holes_onto frames below = holes_of frames ++ holes_in below
