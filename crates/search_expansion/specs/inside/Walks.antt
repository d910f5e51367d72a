-- Walks: what their parts hold of the path that they keep.
use Rattle.std.specs.List.{AllByRecursion}
use Rattle.std.specs.Prelude.{◌≡◌, ◌⊎◌, ◌≤◌, ◌-◌, ℕ, Bool, List, [], ◌∷◌, ◌++◌, Option, Some, None, length, map, reverse, take}
use Rattle.core_tree.specs.Syntax.{ModuleTree}
use Rattle.term_core.specs.declared.step.Step.{Step}
use Rattle.world_model.specs.Asking.{program_of}
use Rattle.world_model.specs.Events.{Event, History}
use Rattle.world_model.specs.Requests.{Program}
use Rattle.world_model.specs.Run.{next_event, run}
use Rattle.tree_coverage.specs.Findings.{Findings}
use Rattle.tree_coverage.specs.Jobs as tree
use Rattle.tree_coverage.specs.Jobs.{Job, asleep_below, awake_steps}
use Rattle.world_identities.specs.declared.identity.Identity.{Identity}
use Rattle.search_jobs.specs.Explorations as seen
use Rattle.search_jobs.specs.Explorations.{ExplorationSeen, findings_of, nodes_of}
use Rattle.search_agenda.specs.Plans.{ArePlans, IsAgenda, IsWorld, Shared, steps_in}
use Rattle.search_expansion.specs.inside.Frames.{AreEnabled, AreFramesOf, FrameSeen, NodeSeen, is_cut_at, nodes_of_frames}
use Rattle.tree_cuts.specs.Cuts.{is_cut}
use Rattle.search_expansion.specs.inside.Nodes.{AddsDeadlock, IsNode}
use Rattle.search_expansion.specs.declared.frame.Frame.{Frame}
use Rattle.search_expansion.specs.declared.node.Node.{Node}
use Rattle.search_expansion.specs.declared.walk.Walk.{Walk}

-- ---- nodes and frames after a history

abbrev pub node_seen : ModuleTree → History → Node → NodeSeen
node_seen m h n = record { program = program_of m; history = h; slept = steps_in n.slept.items; left = n.left }

-- the steps to the children that were not visited
abbrev pub line_in : Frame → List Step
line_in f = steps_in (f.next ∷ reverse f.after.items)

abbrev pub frame_seen : ModuleTree → History → Frame → FrameSeen
frame_seen m h f = record { program = program_of m; history = h; slept = steps_in f.slept.items; line = line_in f; left = f.left }

-- the records are what the history leaves, the agenda is that of it, the plans hold, and the steps of the line can be taken
pub record IsFrame (m : ModuleTree) (h : History) (f : Frame) : Type 0 where
  pub world : IsWorld m h f.records
  pub agenda : IsAgenda (program_of m) h f.agenda
  pub slept : ArePlans (program_of m) h f.slept.items
  pub line : ArePlans (program_of m) h (f.next ∷ reverse f.after.items)
  pub enabled : AreEnabled (program_of m) h (line_in f)

-- this is so of the program and the history at the next child of a frame
abbrev pub AtNextChild : Frame → (Program → History → Type 0) → Type 0
AtNextChild f IsSo = (m : ModuleTree) (h : History) (e : Event) → IsFrame m h f → next_event (program_of m) h f.next.value.step ≡ Some e → IsSo (program_of m) (e ∷ h)

-- the steps of these plans sleep at the next child of a frame, where a step may follow it
abbrev pub AreAsleepBelow : Frame → List Shared → Type 0
AreAsleepBelow f plans = (m : ModuleTree) (h : History) → IsFrame m h f → (f.left ≡ 0 → ⊥) → steps_in plans ≡ asleep_below (program_of m) h (steps_in f.slept.items) f.next.value.step

-- ---- what becomes of a stack

-- a frame goes on to the child after the next one, whose step sleeps from then on
pub record GoesOn (f g : Frame) : Type 0 where
  pub records : g.records ≡ f.records
  pub taken : g.taken ≡ f.taken
  pub slept : g.slept.items ≡ f.slept.items ++ f.next ∷ []
  pub line : g.next ∷ reverse g.after.items ≡ reverse f.after.items
  pub left : g.left ≡ f.left
  pub agenda : g.agenda ≡ f.agenda

pub record GoesOnTop (below : List Frame) (top : Frame) (new : List Frame) : Type 0 where
  pub frame : Frame
  pub goes : GoesOn top frame
  pub is : new ≡ below ++ frame ∷ []

-- the last frame goes on, or is gone where it has no other child
abbrev pub Passes : List Frame → Frame → List Frame → Type 0
Passes below top new = ((top.after.items ≡ []) × (new ≡ below)) ⊎ GoesOnTop below top new

-- the node of the next child of a frame
pub record IsNextNode (m : ModuleTree) (h : History) (f : Frame) (n : Node) : Type 0 where
  pub node : (e : Event) → next_event (program_of m) h f.next.value.step ≡ Some e → IsNode m (e ∷ h) n
  pub slept : (f.left ≡ 0 → ⊥) → steps_in n.slept.items ≡ asleep_below (program_of m) h (steps_in f.slept.items) f.next.value.step
  pub left : n.left ≡ f.left

-- a node has no children where no step may follow, or all of them sleep
abbrev pub HasNoChildren : NodeSeen → Type 0
HasNoChildren v = (v.left ≡ 0) ⊎ (awake_steps v.program v.history v.slept ≡ [])

-- the frame of a node that has some, to which so many steps lead, is put on a stack
pub record OpensFrame (m : ModuleTree) (v : NodeSeen) (taken : ℕ) (old new : List Frame) : Type 0 where
  pub frame : Frame
  pub more : v.left ≡ 0 → ⊥
  pub is : new ≡ old ++ frame ∷ []
  pub taken_is : frame.taken ≡ taken
  pub holds : IsFrame m v.history frame
  pub slept : steps_in frame.slept.items ≡ v.slept
  pub line : line_in frame ≡ awake_steps v.program v.history v.slept
  pub left : frame.left ≡ v.left - 1

abbrev pub Opens : ModuleTree → NodeSeen → ℕ → List Frame → List Frame → Type 0
Opens m v taken old new = ((new ≡ old) × HasNoChildren v) ⊎ OpensFrame m v taken old new

-- ---- walks

abbrev pub or_nothing : Option History → History
or_nothing None = []
or_nothing (Some h) = h

-- what happened after so many steps of a path; nothing where they are no run
abbrev pub history_at : ModuleTree → List Step → ℕ → History
history_at m path taken = or_nothing (run (program_of m) (take taken path))

-- a frame is that of the node to which the first steps of a path lead
pub record StandsOn (m : ModuleTree) (path : List Step) (f : Frame) : Type 0 where
  pub within : f.taken ≤ length path
  pub reached : run (program_of m) (take f.taken path) ≡ Some (history_at m path f.taken)
  pub frame : IsFrame m (history_at m path f.taken) f

-- no more steps lead to a frame than to those above it
abbrev pub Ascends : List Frame → Type 0
Ascends [] = Unit {0}
Ascends (f ∷ fs) = AllByRecursion (λ g. f.taken ≤ g.taken) fs × Ascends fs

pub record AreOnPath (m : ModuleTree) (path : List Step) (fs : List Frame) : Type 0 where
  pub stand : AllByRecursion (StandsOn m path) fs
  pub ascend : Ascends fs

abbrev pub seen_on : ModuleTree → List Step → Frame → FrameSeen
seen_on m path f = frame_seen m (history_at m path f.taken) f

abbrev pub all_seen_on : ModuleTree → List Step → List Frame → List FrameSeen
all_seen_on m path fs = map (seen_on m path) fs

abbrev pub IsWalk : Walk → Type 0
IsWalk w = AreOnPath w.program.now w.path.items w.frames.items

-- its frames
abbrev pub frames_in : Walk → List FrameSeen
frames_in w = all_seen_on w.program.now w.path.items w.frames.items

-- it is one over the nodes of an exploration
pub record IsWalkOf (e : ExplorationSeen) (w : Walk) : Type 0 where
  pub program : program_of w.program.now ≡ seen.program_in e
  pub walk : IsWalk w
  pub are_of : AreFramesOf e (frames_in w)

-- the next child of the last frame is visited, to which so many steps lead: its frame is put on the stack, its deadlock after what is shown, and the result says whether the tree is cut there
pub record VisitsChild (m : ModuleTree) (h : History) (e : Event) (below : List Frame) (top : Frame) (taken : ℕ) (new : List Frame) (cut : Bool) (before after : List Identity) : Type 0 where
  pub child : NodeSeen
  pub rest : List Frame
  pub passes : Passes below top rest
  pub program : child.program ≡ program_of m
  pub history : child.history ≡ e ∷ h
  pub slept : (top.left ≡ 0 → ⊥) → child.slept ≡ asleep_below (program_of m) h (steps_in top.slept.items) top.next.value.step
  pub left : child.left ≡ top.left
  pub opens : Opens m child taken rest new
  pub adds : AddsDeadlock (program_of m) (e ∷ h) before after
  pub cut_is : cut ≡ is_cut_at child

-- the next child of the last frame of a stack is visited
abbrev pub VisitsLast : List Frame → ℕ → List Frame → Bool → List Identity → List Identity → Type 0
VisitsLast old taken new cut before after = (below : List Frame) (top : Frame) → old ≡ below ++ top ∷ [] → (m : ModuleTree) (h : History) (e : Event) → IsFrame m h top → next_event (program_of m) h top.next.value.step ≡ Some e
    → VisitsChild m h e below top taken new cut before after

-- the node of a job is visited, and no other, and the result says whether the tree is cut there
pub record BeginsWalk (e : ExplorationSeen) (name : Job) (before after : Findings) (w : Walk) (cut : Bool) : Type 0 where
  pub node : tree.Node
  pub nodes : nodes_of e name ≡ node ∷ nodes_of_frames (frames_in w)
  pub found : before ≡ findings_of e [] → after ≡ findings_of e (node ∷ [])
  pub walk : IsWalk w
  pub are_of : AreFramesOf e (frames_in w)
  pub cut_is : cut ≡ is_cut (seen.program_in e) e.depth node.schedule
