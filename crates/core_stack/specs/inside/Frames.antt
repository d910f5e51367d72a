-- The frames of the code's stack, as contracts see them.
use Rattle.std.specs.Prelude.{List, map, reverse}
use Rattle.core_tree.specs.Tree.{callee_of, tree_of}
use Rattle.core_stack.specs.declared.frame.Purpose.{Purpose as Use}
use Rattle.core_stack.specs.declared.frame.Purpose.TheVariants as uses
use Rattle.core_stack.specs.declared.frame.Frame.{Frame}
use Rattle.core_stack.specs.declared.frame.Frame.TheVariants as frames
use Rattle.core_stack.specs.Holes.{Purpose, Hole}
use Rattle.core_stack.specs.Purposes as purposes
use Rattle.core_stack.specs.Holes as holes

-- what a frame's parts are for
abbrev pub purpose_of : Use → Purpose
purpose_of uses.Tuple = purposes.Tuple
purpose_of uses.List = purposes.List
purpose_of (uses.Onto tail) = purposes.Onto (tree_of tail.now)
purpose_of (uses.Call callee) = purposes.Call (callee_of callee.now)
purpose_of uses.Values = purposes.Values

-- what a frame leaves out
abbrev pub hole_of : Frame → Hole
hole_of (frames.Parts purpose done later) = holes.Parts (purpose_of purpose) done (map tree_of later.now)
hole_of (frames.Tail items) = holes.Tail items
hole_of (frames.Body variables body) = holes.Body variables.now (tree_of body.now)
hole_of (frames.Second second) = holes.Second (tree_of second.now)
hole_of (frames.Clauses clauses) = holes.Clauses clauses.now
hole_of (frames.Guard bindings body others values) = holes.Guard bindings (tree_of body.now) others.now values
hole_of (frames.Receive receive) = holes.Receive receive.now.1 receive.now.3
hole_of (frames.Try protected) = holes.Try protected.now.2 (protected.now.3) protected.now.4 protected.now.5
hole_of frames.Catch = holes.Catch
hole_of (frames.Kept bindings) = holes.Kept bindings
hole_of (frames.Applied bindings) = holes.Applied bindings

-- a stack's frames from the top down; the last item of the list is the top
abbrev pub holes_of : List Frame → List Hole
holes_of frames = reverse (map hole_of frames)
