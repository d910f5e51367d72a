-- The visit of a node: what it adds, and what it leaves on the stack.
use Rattle.std.proofs.Common.{◌≡◌, ◌∙◌, ◌≤◌, ◌<◌, ◌-◌, inl, inr, ℕ, ◌+◌, Bool, List, [], ◌∷◌, ◌++◌, Some, length, map, reverse, take, refl, sym, ap, subst, arith, length-append, slice_index_or}
use Rattle.std.proofs.lemmas.List.{length-take-le}
use Rattle.std.specs.List.{AllByRecursion}
use Rattle.core_tree.specs.Syntax.{ModuleTree}
use Rattle.term_core.specs.declared.step.Step.{Step}
use Rattle.world_identities.specs.Identities.{identity_in}
use Rattle.tree_findings.specs.Laws.{AddsSchedule}
use Rattle.world_identities.specs.declared.identity.Identity.{Identity}
use Rattle.world_model.specs.Asking.{program_of}
use Rattle.world_model.specs.Events.{Event, History}
use Rattle.world_model.specs.Run.{enabled_steps, extended, next_event, run, schedule_of}
use Rattle.world_model.specs.Shown as shown
use Rattle.world_model.specs.Shown.{Flags, shown_at_rest, shown_last}
use Rattle.tree_coverage.specs.Findings.{Findings}
use Rattle.tree_coverage.specs.Jobs as tree
use Rattle.tree_coverage.specs.Jobs.{asleep_below}
use Rattle.tree_coverage.proofs.JobLaws.{map_join}
use Rattle.search_jobs.specs.Explorations.{ExplorationSeen, nodes_of, program_in}
use Rattle.search_jobs.specs.Reached.{IsJob}
use Rattle.search_jobs.proofs.Lists.{all_append}
use Rattle.search_agenda.specs.Plans.{steps_in}
use Rattle.search_expansion.specs.inside.Frames.{AreFramesOf, IsChild, IsNodeOf, NodeSeen, VisitsNext, is_cut_at, nodes_of_frames, nodes_of_node, own_node}
use Rattle.search_expansion.specs.inside.Walks.{AreOnPath, IsFrame, Opens, OpensFrame, Passes, StandsOn, VisitsChild, all_seen_on, history_at, line_in, seen_on}
use Rattle.search_expansion.specs.declared.frame.Frame.{Frame}
use Rattle.search_expansion.proofs.Frames.{child_and_others, child_is_of, deep_node, frame_of, frames_push, opened_is_of, opened_node, others_are_of, sleeping_node}
use Rattle.search_expansion.proofs.Nodes.{job_has_nodes, job_of_node}
use Rattle.search_expansion.proofs.Pieces.{node_adds, node_cut, node_some, popped}
use Rattle.search_expansion.proofs.Stacks.{HasLast, has_last, last_is}
use Rattle.search_expansion.proofs.Walking.{all_lower, ascends_more, goes_there, history_whole, last_stands, next_of_frame, reached, rest_low, rest_on, rest_seen, schedule_is, whole_runs, whole_seen}

-- ---- the frame of a node is put on a stack, where the whole path leads to the node

module _ (m : ModuleTree) (path : List Step) (child : NodeSeen) (taken : ℕ) (rest new : List Frame) (program : child.program ≡ program_of m) (runs : run (program_of m) path ≡ Some child.history) (count : taken ≡ length path) where
  opened_seen : (o : OpensFrame m child taken rest new) → all_seen_on m path new ≡ all_seen_on m path rest ++ frame_of child (line_in o.frame) ∷ []
  opened_seen o =
      let here : history_at m path o.frame.taken ≡ child.history = history_whole m path child.history o.frame.taken (o.taken_is ∙ count) runs in
      ap (all_seen_on m path) o.is
      ∙ map_join (seen_on m path) rest (o.frame ∷ [])
      ∙ (λ i. all_seen_on m path rest ++ record { program = sym program i; history = here i; slept = o.slept i; line = line_in o.frame; left = o.left i } ∷ [])

  -- the nodes from it on are itself, and what its frame leaves
  pub opened : Opens m child taken rest new → nodes_of_node child ++ nodes_of_frames (all_seen_on m path rest) ≡ own_node child ∷ nodes_of_frames (all_seen_on m path new)
  opened (inl (is, inl none)) = deep_node child (nodes_of_frames (all_seen_on m path rest)) none ∙ ap (λ xs. own_node child ∷ nodes_of_frames (all_seen_on m path xs)) (sym is)
  opened (inl (is, inr none)) = sleeping_node child (nodes_of_frames (all_seen_on m path rest)) none ∙ ap (λ xs. own_node child ∷ nodes_of_frames (all_seen_on m path xs)) (sym is)
  opened (inr o) = opened_node child (line_in o.frame) (all_seen_on m path rest) (all_seen_on m path new) o.more o.line (opened_seen o)

  pub opened_of : (e : ExplorationSeen) → Opens m child taken rest new → IsNodeOf e child → AreFramesOf e (all_seen_on m path rest) → AreFramesOf e (all_seen_on m path new)
  opened_of e (inl none) belongs all = subst (λ xs. AreFramesOf e (all_seen_on m path xs)) (sym none.0) all
  opened_of e (inr o) belongs all = opened_is_of e child (line_in o.frame) (all_seen_on m path rest) (all_seen_on m path new) o.more (opened_seen o) belongs all

  -- and it is on the path
  pub opened_on : Opens m child taken rest new → AreOnPath m path rest → AllByRecursion (λ f. f.taken ≤ length path) rest → AreOnPath m path new
  opened_on (inl none) on low = subst (AreOnPath m path) (sym none.0) on
  opened_on (inr o) on low =
      let all : o.frame.taken ≡ length path = o.taken_is ∙ count in
      let own : StandsOn m path o.frame = record {
        within = omega (arith, all);
        reached = whole_runs m path child.history o.frame.taken all runs;
        frame = subst (λ h. IsFrame m h o.frame) (sym (history_whole m path child.history o.frame.taken all runs)) o.holds;
      } in
      subst (AreOnPath m path) (sym o.is) (record {
        stand = all_append (StandsOn m path) rest (o.frame ∷ []) on.stand (own, tt);
        ascend = ascends_more rest o.frame on.ascend (all_lower rest (length path) o.frame.taken (omega (arith, all)) low);
      })

-- ---- the next child of the last frame

module _ (m : ModuleTree) (path : List Step) (below : List Frame) (top : Frame) (on : AreOnPath m path (below ++ top ∷ [])) (e : Event) (next : next_event (program_of m) (history_at m path top.taken) top.next.value.step ≡ Some e) (rest : List Frame) (passes : Passes below top rest) where
  -- the path to it
  abbrev there : List Step
  there = take top.taken path ++ top.next.value.step ∷ []

  longer : length there ≡ top.taken + 1
  longer = length-append (take top.taken path) (top.next.value.step ∷ []) ∙ ap (λ n. n + 1) (length-take-le top.taken path (last_stands m path below top on).within)

  module _ (child : NodeSeen) (is_child : IsChild (seen_on m path top) top.next.value.step (steps_in (reverse top.after.items)) child) where
    -- its nodes come first
    pub first_nodes : nodes_of_frames (all_seen_on m path (below ++ top ∷ [])) ≡ nodes_of_node child ++ nodes_of_frames (all_seen_on m there rest)
    first_nodes =
        ap nodes_of_frames (whole_seen m path below top on)
        ∙ frames_push (all_seen_on m path below) (seen_on m path top)
        ∙ child_and_others (seen_on m path top) top.next.value.step (steps_in (reverse top.after.items)) child (all_seen_on m path below) (all_seen_on m there rest) is_child
        (rest_seen m path below top on rest passes (top.next.value.step ∷ []))

    pub both_of : (ex : ExplorationSeen) → AreFramesOf ex (all_seen_on m path (below ++ top ∷ [])) → IsNodeOf ex child × AreFramesOf ex (all_seen_on m there rest)
    both_of ex all =
        let b = popped ex (all_seen_on m path (below ++ top ∷ [])) (all_seen_on m path below) (seen_on m path top) all (whole_seen m path below top on) in (
          child_is_of ex (seen_on m path top) top.next.value.step (steps_in (reverse top.after.items)) child is_child b.0,
          others_are_of ex (seen_on m path top) (line_in top) (all_seen_on m path below) (all_seen_on m there rest) (rest_seen m path below top on rest passes (top.next.value.step ∷ [])) b.0 b.1,
        )

  -- ---- it is visited

  module _ (taken : ℕ) (count : taken ≡ length there) (new : List Frame) (before after : List Identity) (child : NodeSeen) (program : child.program ≡ program_of m) (history : child.history ≡ e ∷ history_at m path top.taken)
      (slept : (top.left ≡ 0 → ⊥) → child.slept ≡ asleep_below (program_of m) (history_at m path top.taken) (steps_in top.slept.items) top.next.value.step) (left : child.left ≡ top.left) (opens : Opens m child taken rest new) where
    is_child : IsChild (seen_on m path top) top.next.value.step (steps_in (reverse top.after.items)) child
    is_child = record {
      line = refl;
      program = program;
      history = ap (extended (history_at m path top.taken)) next ∙ ap Some (sym history);
      slept = slept;
      left = left;
    }

    runs : run (program_of m) there ≡ Some child.history
    runs = reached m path below top on e next ∙ ap Some (sym history)

    pub visited_on : AreOnPath m there new
    visited_on =
        opened_on m there child taken rest new program runs count opens (rest_on m path below top on rest passes (top.next.value.step ∷ []))
        (all_lower rest top.taken (length there) (omega (arith, longer)) (rest_low m path below top on rest passes))

    own_runs : run child.program (schedule_of child.history) ≡ Some child.history
    own_runs = (λ i. run (program i) (schedule_of (history i))) ∙ goes_there m path below top on e next ∙ ap Some (sym history)

    pub visited : (cut : Bool) (flags : Flags) (f g : Findings) → cut ≡ is_cut_at child → map identity_in before ≡ shown_last (e ∷ history_at m path top.taken) → map identity_in after ≡ map identity_in before ++ shown_at_rest (enabled_steps (program_of m) (e ∷ history_at m path top.taken)) (e ∷ history_at m path top.taken) → AddsSchedule flags there (map identity_in after) f g
        → VisitsNext flags (all_seen_on m path (below ++ top ∷ [])) f (all_seen_on m there new) g cut
    visited cut flags f g cut_is last dead adds =
        let h = e ∷ history_at m path top.taken in
        let all : map identity_in after ≡ shown.shown child.program child.history =
        dead ∙ ap (λ is. is ++ shown_at_rest (enabled_steps (program_of m) h) h) last ∙ (λ i. shown.shown (sym program i) (sym history i)) in
        let own : AddsSchedule flags (schedule_of child.history) (shown.shown child.program child.history) f g =
        subst (λ (s : List Step). AddsSchedule flags s (shown.shown child.program child.history) f g) (sym (schedule_is m path below top on e next) ∙ ap schedule_of (sym history))
        (subst (λ is. AddsSchedule flags there is f g) all adds) in
        record {
          node = own_node child;
          nodes = first_nodes child is_child ∙ opened m there child taken rest new program runs count opens;
          found = λ ex done same frames old. node_adds ex child flags f g done same (both_of child is_child ex frames).0.program own_runs own old;
          are_of = λ ex frames.
              let both = both_of child is_child ex frames in
              opened_of m there child taken rest new program runs count ex opens both.0 both.1;
          cut_is = λ ex frames. cut_is ∙ node_cut ex child (both_of child is_child ex frames).0 own_runs;
        }

  -- ---- it is left to a job

  module _ (ex : ExplorationSeen) (same : program_of m ≡ program_in ex) (asleep : List Step) (sleeps : (top.left ≡ 0 → ⊥) → asleep ≡ asleep_below (program_of m) (history_at m path top.taken) (steps_in top.slept.items) top.next.value.step) (frames : AreFramesOf ex (all_seen_on m path (below ++ top ∷ []))) where
    abbrev left_child : NodeSeen
    left_child = record { program = program_of m; history = e ∷ history_at m path top.taken; slept = asleep; left = top.left }

    child_left : IsChild (seen_on m path top) top.next.value.step (steps_in (reverse top.after.items)) left_child
    child_left = record { line = refl; program = refl; history = ap (extended (history_at m path top.taken)) next; slept = sleeps; left = refl }

    both_left : IsNodeOf ex left_child × AreFramesOf ex (all_seen_on m there rest)
    both_left = both_of left_child child_left ex frames

    abbrev name_at : List Step → tree.Job
    name_at prefix = record { prefix = prefix; slept = asleep }

    pub left_is_job : IsJob ex (name_at there)
    left_is_job = subst (λ (s : List Step). IsJob ex (name_at s)) (schedule_is m path below top on e next) (job_of_node ex left_child (goes_there m path below top on e next) both_left.0)

    own_nodes : nodes_of ex (name_at there) ≡ nodes_of_node left_child
    own_nodes = ap (λ (s : List Step). nodes_of ex (name_at s)) (sym (schedule_is m path below top on e next)) ∙ job_has_nodes ex left_child (goes_there m path below top on e next) both_left.0

    pub left_nodes : nodes_of_frames (all_seen_on m path (below ++ top ∷ [])) ≡ nodes_of ex (name_at there) ++ nodes_of_frames (all_seen_on m there rest)
    left_nodes = first_nodes left_child child_left ∙ ap (λ vs. vs ++ nodes_of_frames (all_seen_on m there rest)) (sym own_nodes)

    pub left_of : AreFramesOf ex (all_seen_on m there rest)
    left_of = both_left.1

    pub left_fewer : length (nodes_of_frames (all_seen_on m there rest)) < length (nodes_of_frames (all_seen_on m path (below ++ top ∷ [])))
    left_fewer =
        omega (arith, ap length (first_nodes left_child child_left), length-append (nodes_of_node left_child) (nodes_of_frames (all_seen_on m there rest)), node_some left_child)

-- ---- the frame that a walk looks at

module _ (m : ModuleTree) (path moved : List Step) (fs new : List Frame) (some : fs ≡ [] → ⊥) (frame : Frame) (looked : frame ≡ slice_index_or fs (length fs - 1) frame) (on : AreOnPath m path fs) (follows : moved ≡ take frame.taken path ++ frame.next.value.step ∷ []) where
  last : HasLast fs
  last = has_last fs some

  same : frame ≡ last.last
  same = last_is fs last.below last.last frame last.is looked

  on_last : AreOnPath m path (last.below ++ last.last ∷ [])
  on_last = subst (AreOnPath m path) last.is on

  stands : StandsOn m path last.last
  stands = last_stands m path last.below last.last on_last

  abbrev after_last : History
  after_last = history_at m path last.last.taken

  next_step : (e : Event) × (next_event (program_of m) after_last last.last.next.value.step ≡ Some e)
  next_step = next_of_frame m after_last last.last stands.frame

  moved_there : moved ≡ take last.last.taken path ++ last.last.next.value.step ∷ []
  moved_there = follows ∙ ap (λ (f : Frame). take f.taken path ++ f.next.value.step ∷ []) same

  -- it visits the child
  module _ (taken : ℕ) (count : taken ≡ length moved) (cut : Bool) (before after : List Identity)
      (told : (h : History) (e : Event) → IsFrame m h frame → next_event (program_of m) h frame.next.value.step ≡ Some e → map identity_in before ≡ shown_last (e ∷ h))
      (visits : (below : List Frame) (top : Frame) → fs ≡ below ++ top ∷ [] → (k : ModuleTree) (h : History) (e : Event) → IsFrame k h top → next_event (program_of k) h top.next.value.step ≡ Some e → VisitsChild k h e below top taken new cut before after) where
    child : VisitsChild m after_last next_step.0 last.below last.last taken new cut before after
    child = visits last.below last.last last.is m after_last next_step.0 stands.frame next_step.1

    last_told : map identity_in before ≡ shown_last (next_step.0 ∷ after_last)
    last_told =
        told after_last next_step.0 (subst (IsFrame m after_last) (sym same) stands.frame)
        (ap (λ (f : Frame). next_event (program_of m) after_last f.next.value.step) same ∙ next_step.1)

    pub next_on : AreOnPath m moved new
    next_on =
        subst (λ (p : List Step). AreOnPath m p new) (sym moved_there)
        (visited_on m path last.below last.last on_last next_step.0 next_step.1 child.rest child.passes taken (count ∙ ap length moved_there) new before after child.child child.program child.history child.slept child.left child.opens)

    pub next_visits : (flags : Flags) (f g : Findings) → AddsSchedule flags moved (map identity_in after) f g → VisitsNext flags (all_seen_on m path fs) f (all_seen_on m moved new) g cut
    next_visits flags f g adds =
        subst (λ (xs : List Frame). VisitsNext flags (all_seen_on m path xs) f (all_seen_on m moved new) g cut) (sym last.is)
        (subst (λ (p : List Step). VisitsNext flags (all_seen_on m path (last.below ++ last.last ∷ [])) f (all_seen_on m p new) g cut) (sym moved_there)
        (visited m path last.below last.last on_last next_step.0 next_step.1 child.rest child.passes taken (count ∙ ap length moved_there) new before after child.child child.program child.history child.slept child.left child.opens
        cut flags f g child.cut_is last_told child.adds (subst (λ (p : List Step). AddsSchedule flags p (map identity_in after) f g) moved_there adds)))

  -- it leaves the child to a job
  module _ (passes : (below : List Frame) (top : Frame) → fs ≡ below ++ top ∷ [] → Passes below top new) (ex : ExplorationSeen) (program : program_of m ≡ program_in ex) (frames : AreFramesOf ex (all_seen_on m path fs)) (asleep : List Step)
      (sleeps : (h : History) → IsFrame m h frame → (frame.left ≡ 0 → ⊥) → asleep ≡ asleep_below (program_of m) h (steps_in frame.slept.items) frame.next.value.step) where
    own_passes : Passes last.below last.last new
    own_passes = passes last.below last.last last.is

    own_frames : AreFramesOf ex (all_seen_on m path (last.below ++ last.last ∷ []))
    own_frames = subst (λ (xs : List Frame). AreFramesOf ex (all_seen_on m path xs)) last.is frames

    own_sleeps : (last.last.left ≡ 0 → ⊥) → asleep ≡ asleep_below (program_of m) after_last (steps_in last.last.slept.items) last.last.next.value.step
    own_sleeps =
        subst (λ (f : Frame). (f.left ≡ 0 → ⊥) → asleep ≡ asleep_below (program_of m) after_last (steps_in f.slept.items) f.next.value.step) same
        (sleeps after_last (subst (IsFrame m after_last) (sym same) stands.frame))

    abbrev name_of : List Step → tree.Job
    name_of prefix = record { prefix = prefix; slept = asleep }

    pub leaves_a_job : IsJob ex (name_of moved)
    leaves_a_job =
        subst (λ (p : List Step). IsJob ex (name_of p)) (sym moved_there)
        (left_is_job m path last.below last.last on_last next_step.0 next_step.1 new own_passes ex program asleep own_sleeps own_frames)

    pub leaves_nodes : nodes_of_frames (all_seen_on m path fs) ≡ nodes_of ex (name_of moved) ++ nodes_of_frames (all_seen_on m moved new)
    leaves_nodes =
        ap (λ (xs : List Frame). nodes_of_frames (all_seen_on m path xs)) last.is
        ∙ left_nodes m path last.below last.last on_last next_step.0 next_step.1 new own_passes ex program asleep own_sleeps own_frames
        ∙ ap (λ (p : List Step). nodes_of ex (name_of p) ++ nodes_of_frames (all_seen_on m p new)) (sym moved_there)

    pub leaves_on : AreOnPath m moved new
    leaves_on = subst (λ (p : List Step). AreOnPath m p new) (sym moved_there) (rest_on m path last.below last.last on_last new own_passes (last.last.next.value.step ∷ []))

    pub leaves_of : AreFramesOf ex (all_seen_on m moved new)
    leaves_of =
        subst (λ (p : List Step). AreFramesOf ex (all_seen_on m p new)) (sym moved_there)
        (left_of m path last.below last.last on_last next_step.0 next_step.1 new own_passes ex program asleep own_sleeps own_frames)

    pub leaves_fewer : length (nodes_of_frames (all_seen_on m moved new)) < length (nodes_of_frames (all_seen_on m path fs))
    leaves_fewer =
        subst (λ (xs : List Frame). length (nodes_of_frames (all_seen_on m moved new)) < length (nodes_of_frames (all_seen_on m path xs))) (sym last.is)
        (subst (λ (p : List Step). length (nodes_of_frames (all_seen_on m p new)) < length (nodes_of_frames (all_seen_on m path (last.below ++ last.last ∷ [])))) (sym moved_there)
        (left_fewer m path last.below last.last on_last next_step.0 next_step.1 new own_passes ex program asleep own_sleeps own_frames))
