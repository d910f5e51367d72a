-- The walk over the nodes of a tree: nodes that were visited, with children that were not.
use Rattle.std.specs.List.{AllByRecursion}
use Rattle.std.specs.Prelude.{◌≡◌, ℕ, List, [], ◌∷◌, ◌++◌, Option, Some, None}
use Rattle.core_tree.specs.Syntax.{ModuleTree}
use Rattle.term_core.specs.declared.step.Step.{Step}
use Rattle.world_core.specs.Seen.{Seen, program_in}
use Rattle.world_model.specs.Asking.{program_of}
use Rattle.world_model.specs.Events.{History}
use Rattle.world_model.specs.Names.{IsAmong}
use Rattle.world_model.specs.Requests.{Program}
use Rattle.world_model.specs.Run.{next_event}
use Rattle.tree_sleep.specs.Reached.{IsReached}
use Rattle.tree_covers.specs.Faults.{places_along, root_place}
use Rattle.tree_covers.specs.Judging.{Place}

-- each step of a line can be taken
abbrev pub AreEnabled : Program → History → List Step → Type 0
AreEnabled a h line = (s : Step) → IsAmong s line → next_event a h s ≡ None → ⊥

-- a node whose line is to come, with the module
pub record NodeSeen : Type 0 where
  pub program : ModuleTree
  pub history : History
  pub slept : List Step
  pub left : ℕ

abbrev pub place_of : NodeSeen → Place
place_of v = record { history = v.history; slept = v.slept; left = v.left }

-- a node that was visited: the steps that sleep for the next of its children, the steps that are still to be taken there, and how many steps may follow a child
pub record FrameSeen : Type 0 where
  pub program : ModuleTree
  pub history : History
  pub slept : List Step
  pub line : List Step
  pub left : ℕ

-- a frame: its world lives, and each step of its line can be taken
pub record IsFrame (w : Seen) (line : List Step) : Type 0 where
  pub node : IsReached w
  pub enabled : AreEnabled (program_in w) w.history line

-- the nodes that it leaves
abbrev pub places_of_frame : FrameSeen → List Place
places_of_frame f = places_along (program_of f.program) f.left f.history f.slept f.line

-- the places that a stack leaves, those of the last frame first
abbrev pub places_of_frames : List FrameSeen → List Place
places_of_frames [] = []
places_of_frames (f ∷ fs) = places_of_frames fs ++ places_of_frame f

abbrev pub places_of_root : Option NodeSeen → List Place
places_of_root None = []
places_of_root (Some v) = place_of v ∷ []

-- the frames are of the module
abbrev pub AreFramesOf : ModuleTree → List FrameSeen → Type 0
AreFramesOf m fs = AllByRecursion (λ (f : FrameSeen). f.program ≡ m) fs

abbrev pub IsRootOf : ModuleTree → Option NodeSeen → Type 0
IsRootOf m None = Unit {0}
IsRootOf m (Some v) = v.program ≡ m

-- a walk: its frames and its root are of its module
pub record IsWalk (m : ModuleTree) (root : Option NodeSeen) (frames : List FrameSeen) : Type 0 where
  pub root_is_of : IsRootOf m root
  pub frames_are_of : AreFramesOf m frames

-- a walk as contracts see it: its module, and the nodes whose lines are to come, the next one first
pub record WalkSeen : Type 0 where
  pub program : ModuleTree
  pub ahead : List Place

-- at the beginning the root is to come
abbrev pub new_walk : ModuleTree → ℕ → WalkSeen
new_walk m n = record { program = m; ahead = root_place n ∷ [] }
