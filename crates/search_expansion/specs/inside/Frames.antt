-- The stack of a walk: nodes that were visited, with children that were not.
use Rattle.std.specs.List.{AllByRecursion}
use Rattle.std.specs.Prelude.{◌≡◌, ◌+◌, ◌==◌, ◌&&◌, ℕ, Bool, List, [], ◌∷◌, ◌++◌, Some, None, length}
use Rattle.term_core.specs.declared.step.Step.{Step}
use Rattle.world_model.specs.Events.{History}
use Rattle.world_model.specs.Names.{IsAmong}
use Rattle.world_model.specs.Requests.{Program}
use Rattle.world_model.specs.Run.{extended, next_event, schedule_of}
use Rattle.world_model.specs.Shown.{Flags}
use Rattle.tree_coverage.specs.Findings.{Findings}
use Rattle.tree_findings.specs.declared.extent.Extent.{Extent}
use Rattle.tree_coverage.specs.Jobs.{Job, Node, asleep_below, node_at, nodes_from, nodes_along}
use Rattle.search_jobs.specs.Explorations as seen
use Rattle.search_jobs.specs.Explorations.{ExplorationSeen, findings_of, nodes_of}
use Rattle.search_jobs.specs.Pieces.{IsDone}
use Rattle.tree_cuts.specs.Cuts.{goes_on, is_cut}

-- a node that is to be visited: how many steps may follow it
pub record NodeSeen : Type 0 where
  pub program : Program
  pub history : History
  pub slept : List Step
  pub left : ℕ

-- the node, and the nodes from it on
abbrev pub own_node : NodeSeen → Node
own_node v = node_at v.program v.left v.history (schedule_of v.history) v.slept

abbrev pub nodes_of_node : NodeSeen → List Node
nodes_of_node v = nodes_from v.program v.left v.history (schedule_of v.history) v.slept

-- the tree is cut at it: no step may follow, and some is enabled
abbrev pub is_cut_at : NodeSeen → Bool
is_cut_at v = v.left == 0 && goes_on v.program (Some v.history)

-- a node that was visited: the steps that sleep for the next of its children, the steps that are still to be taken there, and how many steps may follow a child
pub record FrameSeen : Type 0 where
  pub program : Program
  pub history : History
  pub slept : List Step
  pub line : List Step
  pub left : ℕ

-- the frame of the steps after the first one, which sleeps for them
abbrev pub frame_after : FrameSeen → Step → List Step → FrameSeen
frame_after f s rest = record { program = f.program; history = f.history; slept = f.slept ++ s ∷ []; line = rest; left = f.left }

abbrev pub others_of : FrameSeen → List Step → List FrameSeen
others_of f [] = []
others_of f (s ∷ []) = []
others_of f (s ∷ t ∷ rest) = frame_after f s (t ∷ rest) ∷ []

-- the nodes that it leaves to be visited
abbrev pub nodes_of_frame : FrameSeen → List Node
nodes_of_frame f =
    nodes_along (nodes_from f.program f.left) f.program f.history (schedule_of f.history) f.slept f.line

-- the nodes that a stack leaves, those of the last frame first
abbrev pub nodes_of_frames : List FrameSeen → List Node
nodes_of_frames [] = []
nodes_of_frames (f ∷ fs) = nodes_of_frames fs ++ nodes_of_frame f

-- each step of a line can be taken
abbrev pub AreEnabled : Program → History → List Step → Type 0
AreEnabled a h line = (s : Step) → IsAmong s line → next_event a h s ≡ None → ⊥

-- the node is one of the exploration
pub record IsNodeOf (e : ExplorationSeen) (v : NodeSeen) : Type 0 where
  pub program : v.program ≡ seen.program_in e
  pub deep : length (schedule_of v.history) + v.left ≡ e.depth

pub record IsFrameOf (e : ExplorationSeen) (f : FrameSeen) : Type 0 where
  pub program : f.program ≡ seen.program_in e
  pub deep : length (schedule_of f.history) + (f.left + 1) ≡ e.depth

abbrev pub AreFramesOf : ExplorationSeen → List FrameSeen → Type 0
AreFramesOf e fs = AllByRecursion (IsFrameOf e) fs

-- the node below a frame by the first step of its line
pub record IsChild (f : FrameSeen) (s : Step) (rest : List Step) (v : NodeSeen) : Type 0 where
  pub line : f.line ≡ s ∷ rest
  pub program : v.program ≡ f.program
  pub history : extended f.history (next_event f.program f.history s) ≡ Some v.history
  pub slept : (f.left ≡ 0 → ⊥) → v.slept ≡ asleep_below f.program f.history f.slept s
  pub left : v.left ≡ f.left

-- the next child of the last frame is visited: what it shows is added, the others stay on the stack, and the result says whether the tree is cut there
pub record VisitsNext (flags : Flags) (old : List FrameSeen) (before : Findings) (new : List FrameSeen) (after : Findings) (cut : Bool) : Type 0 where
  pub node : Node
  pub nodes : nodes_of_frames old ≡ node ∷ nodes_of_frames new
  pub found : (e : ExplorationSeen) (done : List Node) → e.flags ≡ flags → AreFramesOf e old → before ≡ findings_of e done → after ≡ findings_of e (done ++ node ∷ [])
  pub are_of : (e : ExplorationSeen) → AreFramesOf e old → AreFramesOf e new
  pub cut_is : (e : ExplorationSeen) → AreFramesOf e old → cut ≡ is_cut (seen.program_in e) e.depth node.schedule

-- the nodes of a job are those that were visited, and then those that the stack leaves
pub record IsExploring (e : ExplorationSeen) (name : Job) (findings : Findings) (extent : Extent) (frames : List FrameSeen) : Type 0 where
  pub done : List Node
  pub is_done : IsDone e done findings extent
  pub made_up : nodes_of e name ≡ done ++ nodes_of_frames frames
  pub are_of : AreFramesOf e frames
