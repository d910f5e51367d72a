-- The first visit of a walk: that of the node of a job.
use Rattle.std.proofs.Common.{◌≡◌, ◌∙◌, ◌≤◌, ◌-◌, ℕ, Bool, List, [], ◌∷◌, ◌++◌, Some, length, filter, refl, sym, ap, subst, append-nil}
use Rattle.std.specs.List.{AllByRecursion}
use Rattle.core_tree.specs.Syntax.{ModuleTree}
use Rattle.term_core.specs.declared.step.Step.{Step}
use Rattle.tree_findings.specs.Laws.{AddsSchedule}
use Rattle.world_core.specs.Seen.{Seen, program_in}
use Rattle.world_model.specs.Asking.{program_of}
use Rattle.world_model.specs.Run.{is_enabled, run, schedule_of}
use Rattle.world_model.specs.Shown as shown
use Rattle.world_model.specs.Shown.{Flags, Identity}
use Rattle.tree_coverage.specs.Findings.{Findings}
use Rattle.tree_coverage.specs.Jobs.{Job}
use Rattle.search_jobs.specs.Explorations as seen
use Rattle.search_jobs.specs.Explorations.{ExplorationSeen, findings_of, nodes_of}
use Rattle.search_expansion.specs.inside.Reached.{IsAt}
use Rattle.tree_cuts.specs.Cuts.{is_cut}
use Rattle.search_expansion.specs.inside.Frames.{AreFramesOf, IsNodeOf, NodeSeen, is_cut_at, nodes_of_frames, nodes_of_node, own_node}
use Rattle.search_expansion.specs.inside.Walks.{AreOnPath, Opens, all_seen_on}
use Rattle.search_expansion.specs.declared.frame.Frame.{Frame}
use Rattle.search_expansion.proofs.Nodes.{node_has_nodes, node_is_of, own_schedule, reached_by}
use Rattle.search_expansion.proofs.Pieces.{node_adds, node_cut}
use Rattle.search_expansion.proofs.Visiting.{opened, opened_of, opened_on}

module _ (e : ExplorationSeen) (name : Job) (w : Seen) (m : ModuleTree) (path slept : List Step) (taken left : ℕ) (at : IsAt (seen.program_in e) name.prefix w) (short : length name.prefix ≤ e.depth) (module_is : w.program ≡ m) (path_is : path ≡ name.prefix)
    (sleeps : slept ≡ filter (is_enabled (program_of m) w.history) name.slept) (count : taken ≡ length path) (left_is : left ≡ e.depth - taken) where
  abbrev first : NodeSeen
  first = record { program = program_of m; history = w.history; slept = slept; left = left }

  long : taken ≡ length name.prefix
  long = count ∙ ap length path_is

  first_is_of : IsNodeOf e first
  first_is_of = subst (λ p. IsNodeOf e (record { program = program_of p; history = w.history; slept = slept; left = left })) module_is (node_is_of e name w slept taken left short at long left_is)

  all_nodes : nodes_of e name ≡ nodes_of_node first
  all_nodes =
      sym (node_has_nodes e name w slept taken left at long left_is (subst (λ p. slept ≡ filter (is_enabled (program_of p) w.history) name.slept) (sym module_is) sleeps))
      ∙ ap (λ p. nodes_of_node (record { program = program_of p; history = w.history; slept = slept; left = left })) module_is

  path_runs : run (program_of m) path ≡ Some w.history
  path_runs = (λ i. run (program_of (sym module_is i)) (path_is i)) ∙ ap (λ a. run a name.prefix) at.program ∙ at.runs

  own_runs : run (program_of m) (schedule_of w.history) ≡ Some w.history
  own_runs = subst (λ p. run (program_of p) (schedule_of w.history) ≡ Some w.history) module_is (reached_by (seen.program_in e) name w at)

  -- what it shows is added
  pub first_adds : (flags : Flags) (f g : Findings) (is : List Identity) → e.flags ≡ flags → is ≡ shown.shown (program_in w) w.history → AddsSchedule flags path is f g → f ≡ findings_of e [] → g ≡ findings_of e (own_node first ∷ [])
  first_adds flags f g is same all adds nothing =
      node_adds e first flags f g [] same first_is_of.program own_runs
      (subst (λ s. AddsSchedule flags s (shown.shown (program_of m) w.history) f g) (path_is ∙ sym (own_schedule (seen.program_in e) name w at))
      (subst (λ xs. AddsSchedule flags path xs f g) (all ∙ ap (λ p. shown.shown (program_of p) w.history) module_is) adds))
      nothing

  -- the result says whether the tree is cut there
  pub first_cut : (cut : Bool) → cut ≡ is_cut_at first → cut ≡ is_cut (seen.program_in e) e.depth (schedule_of w.history)
  first_cut cut is = is ∙ node_cut e first first_is_of own_runs

  -- and its frame, if it has one, is all that is left
  module _ (old new : List Frame) (none : old ≡ []) (opens : Opens m first taken old new) where
    pub first_nodes : nodes_of e name ≡ own_node first ∷ nodes_of_frames (all_seen_on m path new)
    first_nodes =
        all_nodes ∙ sym (append-nil (nodes_of_node first))
        ∙ ap (λ xs. nodes_of_node first ++ nodes_of_frames (all_seen_on m path xs)) (sym none)
        ∙ opened m path first taken old new refl path_runs count opens

    pub first_on : AreOnPath m path new
    first_on =
        opened_on m path first taken old new refl path_runs count opens
        (subst (AreOnPath m path) (sym none) (record { stand = tt; ascend = tt }))
        (subst (AllByRecursion (λ (f : Frame). f.taken ≤ length path)) (sym none) tt)

    pub first_frames : AreFramesOf e (all_seen_on m path new)
    first_frames = opened_of m path first taken old new refl path_runs count e opens first_is_of (subst (λ xs. AreFramesOf e (all_seen_on m path xs)) (sym none) tt)
