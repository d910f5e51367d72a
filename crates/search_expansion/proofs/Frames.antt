-- What a stack of frames leaves to be visited.
use Rattle.std.proofs.Common.{◌≡◌, ℕ, zero, suc, ◌+◌, ◌-◌, true, List, [], ◌∷◌, ◌++◌, length, Option, Some, None, is_some, refl, sym, ap, ◌∙◌, subst, arith, append_assoc, append-nil}
use Rattle.term_core.specs.declared.step.Step.{Step}
use Rattle.world_model.specs.Events.{Event, History}
use Rattle.world_model.specs.Names.{IsAmong}
use Rattle.world_model.specs.Requests.{Program}
use Rattle.world_model.specs.Run.{next_event, enabled_steps, schedule_of}
use Rattle.world_model.proofs.Opened.{listed_enabled}
use Rattle.tree_coverage.specs.Jobs.{Node, asleep_below, awake_steps, nodes_after, nodes_along, node_at, nodes_from}
use Rattle.tree_coverage.proofs.Lists.{kept_passes}
use Rattle.search_jobs.specs.Explorations.{ExplorationSeen}
use Rattle.search_expansion.specs.inside.Frames.{NodeSeen, FrameSeen, own_node, nodes_of_node, nodes_of_frame, nodes_of_frames, AreEnabled, IsNodeOf, IsFrameOf, AreFramesOf, IsChild, frame_after, others_of}
use Rattle.search_jobs.proofs.Lists.{all_append}
use Rattle.search_jobs.proofs.Runs.{not_none}
use Rattle.search_expansion.proofs.Runs.{next_of, longer, one_longer}

-- a frame on top
pub frames_push : (fs : List FrameSeen) (f : FrameSeen) → nodes_of_frames (fs ++ f ∷ []) ≡ nodes_of_frame f ++ nodes_of_frames fs
frames_push [] f = sym (append-nil (nodes_of_frame f))
frames_push (g ∷ fs) f =
    ap (λ vs. vs ++ nodes_of_frame g) (frames_push fs f) ∙ append_assoc (nodes_of_frame f) (nodes_of_frames fs) (nodes_of_frame g)

-- ---- a node is visited

module _ (a : Program) (h : History) (schedule slept : List Step) where
  at_depth : (n : ℕ) → n ≡ 0 → nodes_from a n h schedule slept ≡ node_at a n h schedule slept ∷ []
  at_depth zero e = refl
  at_depth (suc n) e = absurd (omega (arith, e))

  all_asleep : (n : ℕ) → awake_steps a h slept ≡ [] → nodes_from a n h schedule slept ≡ node_at a n h schedule slept ∷ []
  all_asleep zero e = refl
  all_asleep (suc n) e = ap (λ line. node_at a (suc n) h schedule slept ∷ nodes_along (nodes_from a n) a h schedule slept line) e

  with_more : (n : ℕ) → (n ≡ 0 → ⊥) → nodes_from a n h schedule slept ≡ node_at a n h schedule slept ∷ nodes_along (nodes_from a (n - 1)) a h schedule slept (awake_steps a h slept)
  with_more zero some = absurd (some refl)
  with_more (suc n) some =
      let e : n ≡ suc n - 1 = omega arith in
      ap (λ (k : ℕ). node_at a (suc n) h schedule slept ∷ nodes_along (nodes_from a k) a h schedule slept (awake_steps a h slept)) e

-- one that has no children
pub deep_node : (v : NodeSeen) (vs : List Node) → v.left ≡ 0 → nodes_of_node v ++ vs ≡ own_node v ∷ vs
deep_node v vs none = ap (λ us. us ++ vs) (at_depth v.program v.history (schedule_of v.history) v.slept v.left none)

pub sleeping_node : (v : NodeSeen) (vs : List Node) → awake_steps v.program v.history v.slept ≡ [] → nodes_of_node v ++ vs ≡ own_node v ∷ vs
sleeping_node v vs none = ap (λ us. us ++ vs) (all_asleep v.program v.history (schedule_of v.history) v.slept v.left none)

-- one whose frame is put on the stack
abbrev pub frame_of : NodeSeen → List Step → FrameSeen
frame_of v line = record { program = v.program; history = v.history; slept = v.slept; line = line; left = v.left - 1 }

pub opened_node : (v : NodeSeen) (line : List Step) (fs gs : List FrameSeen) → (v.left ≡ 0 → ⊥) → line ≡ awake_steps v.program v.history v.slept → gs ≡ fs ++ frame_of v line ∷ [] → nodes_of_node v ++ nodes_of_frames fs ≡ own_node v ∷ nodes_of_frames gs
opened_node v line fs gs some is now =
    ap (λ vs. vs ++ nodes_of_frames fs) (with_more v.program v.history (schedule_of v.history) v.slept v.left some)
    ∙ ap (λ xs. own_node v ∷ (nodes_along (nodes_from v.program (v.left - 1)) v.program v.history (schedule_of v.history) v.slept xs ++ nodes_of_frames fs)) (sym is)
    ∙ sym (ap (λ vs. own_node v ∷ vs) (ap nodes_of_frames now ∙ frames_push fs (frame_of v line)))

pub opened_is_of : (e : ExplorationSeen) (v : NodeSeen) (line : List Step) (fs gs : List FrameSeen) → (v.left ≡ 0 → ⊥) → gs ≡ fs ++ frame_of v line ∷ [] → IsNodeOf e v → AreFramesOf e fs → AreFramesOf e gs
opened_is_of e v line fs gs some now belongs all =
    let more : (v.left - 1) + 1 ≡ v.left = omega (arith, some_left v.left some) in
    subst (AreFramesOf e) (sym now) (all_append (IsFrameOf e) fs (frame_of v line ∷ []) all (record { program = belongs.program; deep = ap (λ (k : ℕ). length (schedule_of v.history) + k) more ∙ belongs.deep }, tt))
  where
    some_left : (n : ℕ) → (n ≡ 0 → ⊥) → (n - 1) + 1 ≡ n
    some_left zero some = absurd (some refl)
    some_left (suc n) some = omega arith

-- the steps of its line can be taken
pub awake_enabled : (a : Program) (h : History) (slept line : List Step) → line ≡ awake_steps a h slept → AreEnabled a h line
awake_enabled a h slept line is s there none =
    absurd (not_none _ _ (some_event (next_event a h s) (listed_enabled a h s (kept_passes _ (enabled_steps a h) s (subst (IsAmong s) is there)).1)).1 none)
  where
    some_event : (o : Option Event) → is_some o ≡ true → (e : Event) × (o ≡ Some e)
    some_event None is = absurd cc
    some_event (Some e) is = (e, refl)

-- ---- the next child

-- at the depth it does not matter what sleeps
any_sleep : (a : Program) (n : ℕ) (h : History) (schedule one other : List Step) → ((n ≡ 0 → ⊥) → one ≡ other) → nodes_from a n h schedule one ≡ nodes_from a n h schedule other
any_sleep a zero h schedule one other same = refl
any_sleep a (suc n) h schedule one other same = ap (λ z. nodes_from a (suc n) h schedule z) (same (λ e. absurd (omega (arith, e))))

-- the nodes that are left after it
abbrev pub others : FrameSeen → Step → List Step → List Node
others f s rest =
    nodes_along (nodes_from f.program f.left) f.program f.history (schedule_of f.history) (f.slept ++ s ∷ []) rest

child_nodes : (f : FrameSeen) (s : Step) (rest : List Step) (v : NodeSeen) → IsChild f s rest v → nodes_after (λ g. nodes_from f.program f.left g (schedule_of f.history ++ s ∷ []) (asleep_below f.program f.history f.slept s)) f.history (next_event f.program f.history s) ≡ nodes_of_node v
child_nodes f s rest v c =
    let a = f.program in
    let asleep = asleep_below a f.history f.slept s in
    let next = next_of a f.history s v.history c.history in
    ap (nodes_after (λ g. nodes_from a f.left g (schedule_of f.history ++ s ∷ []) asleep) f.history) next.is_next
    ∙ ap (λ g. nodes_from a f.left g (schedule_of f.history ++ s ∷ []) asleep) (sym next.grown)
    ∙ ap (λ t. nodes_from a f.left v.history t asleep) (sym (longer a f.history s v.history next))
    ∙ any_sleep a f.left v.history (schedule_of v.history) asleep v.slept (λ some. sym (c.slept some))
    ∙ (λ i. nodes_from (sym c.program i) (sym c.left i) v.history (schedule_of v.history) v.slept)

child_first : (f : FrameSeen) (s : Step) (rest : List Step) (v : NodeSeen) → IsChild f s rest v → nodes_of_frame f ≡ nodes_of_node v ++ others f s rest
child_first f s rest v c =
    ap (nodes_along (nodes_from f.program f.left) f.program f.history (schedule_of f.history) f.slept) c.line
    ∙ ap (λ vs. vs ++ others f s rest) (child_nodes f s rest v c)

last_child : (f : FrameSeen) (s : Step) (v : NodeSeen) (vs : List Node) → IsChild f s [] v → nodes_of_frame f ++ vs ≡ nodes_of_node v ++ vs
last_child f s v vs c = ap (λ us. us ++ vs) (child_first f s [] v c ∙ append-nil (nodes_of_node v))

-- the others go back on the stack
more_children : (f : FrameSeen) (s : Step) (rest : List Step) (v : NodeSeen) (fs gs : List FrameSeen) → IsChild f s rest v → gs ≡ fs ++ frame_after f s rest ∷ [] → nodes_of_frame f ++ nodes_of_frames fs ≡ nodes_of_node v ++ nodes_of_frames gs
more_children f s rest v fs gs c now =
    ap (λ us. us ++ nodes_of_frames fs) (child_first f s rest v c) ∙ append_assoc (nodes_of_node v) (others f s rest) (nodes_of_frames fs)
    ∙ ap (λ us. nodes_of_node v ++ us) (sym (ap nodes_of_frames now ∙ frames_push fs (frame_after f s rest)))

-- it is a node of the exploration
pub child_is_of : (e : ExplorationSeen) (f : FrameSeen) (s : Step) (rest : List Step) (v : NodeSeen) → IsChild f s rest v → IsFrameOf e f → IsNodeOf e v
child_is_of e f s rest v c belongs =
    let next = next_of f.program f.history s v.history c.history in
    record {
      program = c.program ∙ belongs.program;
      deep = omega (arith, one_longer f.program f.history s v.history next, belongs.deep, c.left);
    }

-- so is the frame with one step less
more_are_of : (e : ExplorationSeen) (f : FrameSeen) (s : Step) (rest : List Step) (fs gs : List FrameSeen) → gs ≡ fs ++ frame_after f s rest ∷ [] → IsFrameOf e f → AreFramesOf e fs → AreFramesOf e gs
more_are_of e f s rest fs gs now belongs all =
    subst (AreFramesOf e) (sym now) (all_append (IsFrameOf e) fs (frame_after f s rest ∷ []) all (record { program = belongs.program; deep = belongs.deep }, tt))

-- a child, and what is put back
pub child_and_others : (f : FrameSeen) (s : Step) (rest : List Step) (v : NodeSeen) (fs gs : List FrameSeen) → IsChild f s rest v → gs ≡ fs ++ others_of f (s ∷ rest) → nodes_of_frame f ++ nodes_of_frames fs ≡ nodes_of_node v ++ nodes_of_frames gs
child_and_others f s [] v fs gs c now = last_child f s v (nodes_of_frames fs) c ∙ ap (λ xs. nodes_of_node v ++ nodes_of_frames xs) (sym (now ∙ append-nil fs))
child_and_others f s (t ∷ rest) v fs gs c now = more_children f s (t ∷ rest) v fs gs c now

pub others_are_of : (e : ExplorationSeen) (f : FrameSeen) (line : List Step) (fs gs : List FrameSeen) → gs ≡ fs ++ others_of f line → IsFrameOf e f → AreFramesOf e fs → AreFramesOf e gs
others_are_of e f [] fs gs now belongs all = subst (AreFramesOf e) (sym (now ∙ append-nil fs)) all
others_are_of e f (s ∷ []) fs gs now belongs all = subst (AreFramesOf e) (sym (now ∙ append-nil fs)) all
others_are_of e f (s ∷ t ∷ rest) fs gs now belongs all = more_are_of e f s (t ∷ rest) fs gs now belongs all
