-- Walks: what stays of a stack where its last frame goes on, and the path goes on below that frame.
use Rattle.std.proofs.Common.{◌≡◌, ◌∙◌, ◌≤◌, inl, inr, ℕ, List, [], ◌∷◌, ◌++◌, Option, Some, None, length, reverse, take, refl, sym, ap, subst, arith, append-nil, length-append}
use Rattle.std.proofs.lemmas.List.{length-take-le, take-append-le, take-take, take_all}
use Rattle.std.specs.List.{AllByRecursion}
use Rattle.core_tree.specs.Syntax.{ModuleTree}
use Rattle.term_core.specs.declared.step.Step.{Step}
use Rattle.world_model.specs.Asking.{program_of}
use Rattle.world_model.specs.Events.{Event, History}
use Rattle.world_model.specs.Names.{IsAmong}
use Rattle.world_model.specs.Requests.{Program}
use Rattle.world_model.specs.Run.{IsRun, extended, next_event, run, schedule_of}
use Rattle.world_model.proofs.Runs.{runs_real}
use Rattle.tree_coverage.proofs.JobLaws.{map_join, one_more}
use Rattle.search_agenda.specs.Plans.{ArePlans, IsAgenda, IsPlan, IsWorld, Shared, steps_in}
use Rattle.search_jobs.proofs.Lists.{all_append, all_back, all_front}
use Rattle.search_expansion.specs.inside.Frames.{others_of}
use Rattle.search_expansion.specs.inside.Walks.{AreOnPath, Ascends, GoesOn, IsFrame, Passes, StandsOn, all_seen_on, frame_seen, history_at, line_in, or_nothing, seen_on}
use Rattle.search_expansion.specs.declared.frame.Frame.{Frame}

-- the next step of a frame can be taken: what happens then
pub event_of : (o : Option Event) → (o ≡ None → ⊥) → (e : Event) × (o ≡ Some e)
event_of None some = absurd (some refl)
event_of (Some e) some = (e, refl)

pub next_of_frame : (m : ModuleTree) (h : History) (f : Frame) → IsFrame m h f → (e : Event) × (next_event (program_of m) h f.next.value.step ≡ Some e)
next_of_frame m h f is = event_of (next_event (program_of m) h f.next.value.step) (is.enabled f.next.value.step (inl refl))

-- ---- the steps that lead to frames

ascends_below : (below : List Frame) (top : Frame) → Ascends (below ++ top ∷ []) → AllByRecursion (λ f. f.taken ≤ top.taken) below × Ascends below
ascends_below [] top ascend = (tt, tt)
ascends_below (f ∷ fs) top ascend =
    let more = ascends_below fs top ascend.1 in
    (((all_back (λ (g : Frame). f.taken ≤ g.taken) fs (top ∷ []) ascend.0).0, more.0), (all_front (λ (g : Frame). f.taken ≤ g.taken) fs (top ∷ []) ascend.0, more.1))

pub ascends_more : (fs : List Frame) (f : Frame) → Ascends fs → AllByRecursion (λ g. g.taken ≤ f.taken) fs → Ascends (fs ++ f ∷ [])
ascends_more [] f ascend low = (tt, tt)
ascends_more (g ∷ gs) f ascend low = (all_append (λ (x : Frame). g.taken ≤ x.taken) gs (f ∷ []) ascend.0 (low.0, tt), ascends_more gs f ascend.1 low.1)

pub all_lower : (fs : List Frame) (k l : ℕ) → k ≤ l → AllByRecursion (λ f. f.taken ≤ k) fs → AllByRecursion (λ f. f.taken ≤ l) fs
all_lower [] k l less low = tt
all_lower (f ∷ fs) k l less low = (omega (arith, less, low.0), all_lower fs k l less low.1)

-- ---- a path that is another one after its first steps

module _ (m : ModuleTree) (path more : List Step) (k : ℕ) (deep : k ≤ length path) where
  front : (n : ℕ) → n ≤ k → take n (take k path ++ more) ≡ take n path
  front n low = take-append-le n (take k path) more (omega (arith, low, length-take-le k path deep)) ∙ take-take n k path low

  history_stays : (n : ℕ) → n ≤ k → history_at m (take k path ++ more) n ≡ history_at m path n
  history_stays n low = ap (λ s. or_nothing (run (program_of m) s)) (front n low)

  seen_stays : (f : Frame) → f.taken ≤ k → seen_on m (take k path ++ more) f ≡ seen_on m path f
  seen_stays f low = ap (λ h. frame_seen m h f) (history_stays f.taken low)

  stands_stay : (f : Frame) → f.taken ≤ k → StandsOn m path f → StandsOn m (take k path ++ more) f
  stands_stay f low stands = record {
    within = omega (arith, low, length-take-le k path deep, length-append (take k path) more);
    reached = ap (run (program_of m)) (front f.taken low) ∙ stands.reached ∙ ap Some (sym (history_stays f.taken low));
    frame = subst (λ h. IsFrame m h f) (sym (history_stays f.taken low)) stands.frame;
  }

  all_stand : (fs : List Frame) → AllByRecursion (λ f. f.taken ≤ k) fs → AllByRecursion (StandsOn m path) fs → AllByRecursion (StandsOn m (take k path ++ more)) fs
  all_stand [] low stand = tt
  all_stand (f ∷ fs) low stand = (stands_stay f low.0 stand.0, all_stand fs low.1 stand.1)

  all_seen : (fs : List Frame) → AllByRecursion (λ f. f.taken ≤ k) fs → all_seen_on m (take k path ++ more) fs ≡ all_seen_on m path fs
  all_seen [] low = refl
  all_seen (f ∷ fs) low = λ i. seen_stays f low.0 i ∷ all_seen fs low.1 i

-- ---- a frame that goes on

pub goes_frame : (m : ModuleTree) (h : History) (f g : Frame) → GoesOn f g → IsFrame m h f → IsFrame m h g
goes_frame m h f g goes is = record {
  world = subst (IsWorld m h) (sym goes.records) is.world;
  agenda = subst (IsAgenda (program_of m) h) (sym goes.agenda) is.agenda;
  slept = subst (ArePlans (program_of m) h) (sym goes.slept) (all_append (λ (p : Shared). IsPlan (program_of m) h p.value) f.slept.items (f.next ∷ []) is.slept (is.line.0, tt));
  line = subst (ArePlans (program_of m) h) (sym goes.line) is.line.1;
  enabled = λ s there. is.enabled s (inr (subst (IsAmong s) (ap steps_in goes.line) there));
}

goes_seen : (m : ModuleTree) (h : History) (f g : Frame) → GoesOn f g → frame_seen m h g ∷ [] ≡ others_of (frame_seen m h f) (line_in f)
goes_seen m h f g goes =
    (λ i. record { program = program_of m; history = h; slept = (ap steps_in goes.slept ∙ map_join (λ (p : Shared). p.value.step) f.slept.items (f.next ∷ [])) i; line = line_in g; left = goes.left i } ∷ [])
    ∙ ap (λ (line : List Step). others_of (frame_seen m h f) (f.next.value.step ∷ line)) (ap steps_in goes.line)

goes_stand : (m : ModuleTree) (path : List Step) (f g : Frame) → GoesOn f g → StandsOn m path f → StandsOn m path g
goes_stand m path f g goes stands = record {
  within = omega (arith, stands.within, goes.taken);
  reached = ap (λ n. run (program_of m) (take n path)) goes.taken ∙ stands.reached ∙ ap (λ n. Some (history_at m path n)) (sym goes.taken);
  frame = subst (λ n. IsFrame m (history_at m path n) g) (sym goes.taken) (goes_frame m (history_at m path f.taken) f g goes stands.frame);
}

-- ---- the stack, where its last frame goes on or is gone, and the path is that of the next child

module _ (m : ModuleTree) (path : List Step) (below : List Frame) (top : Frame) (on : AreOnPath m path (below ++ top ∷ [])) where
  -- the last frame
  pub last_stands : StandsOn m path top
  last_stands = (all_back (StandsOn m path) below (top ∷ []) on.stand).0

  stand_below : AllByRecursion (StandsOn m path) below
  stand_below = all_front (StandsOn m path) below (top ∷ []) on.stand

  low_below : AllByRecursion (λ f. f.taken ≤ top.taken) below
  low_below = (ascends_below below top on.ascend).0

  pub whole_seen : all_seen_on m path (below ++ top ∷ []) ≡ all_seen_on m path below ++ seen_on m path top ∷ []
  whole_seen = map_join (seen_on m path) below (top ∷ [])

  module _ (rest : List Frame) (passes : Passes below top rest) where
    pub rest_low : AllByRecursion (λ f. f.taken ≤ top.taken) rest
    rest_low = go passes
      where
        go : Passes below top rest → AllByRecursion (λ f. f.taken ≤ top.taken) rest
        go (inl gone) = subst (AllByRecursion (λ (f : Frame). f.taken ≤ top.taken)) (sym gone.1) low_below
        go (inr g) = subst (AllByRecursion (λ (f : Frame). f.taken ≤ top.taken)) (sym g.is) (all_append (λ (f : Frame). f.taken ≤ top.taken) below (g.frame ∷ []) low_below (omega (arith, g.goes.taken), tt))

    pub rest_on : (more : List Step) → AreOnPath m (take top.taken path ++ more) rest
    rest_on more = go passes
      where
        there : AllByRecursion (StandsOn m (take top.taken path ++ more)) below
        there = all_stand m path more top.taken last_stands.within below low_below stand_below

        go : Passes below top rest → AreOnPath m (take top.taken path ++ more) rest
        go (inl gone) = subst (AreOnPath m (take top.taken path ++ more)) (sym gone.1) (record { stand = there; ascend = (ascends_below below top on.ascend).1 })
        go (inr g) =
            let low : g.frame.taken ≤ top.taken = omega (arith, g.goes.taken) in
            let own = stands_stay m path more top.taken last_stands.within g.frame low (goes_stand m path top g.frame g.goes last_stands) in
            subst (AreOnPath m (take top.taken path ++ more)) (sym g.is) (record {
              stand = all_append (StandsOn m (take top.taken path ++ more)) below (g.frame ∷ []) there (own, tt);
              ascend = ascends_more below g.frame (ascends_below below top on.ascend).1 (all_lower below top.taken g.frame.taken (omega (arith, g.goes.taken)) low_below);
            })

    pub rest_seen : (more : List Step) → all_seen_on m (take top.taken path ++ more) rest ≡ all_seen_on m path below ++ others_of (seen_on m path top) (line_in top)
    rest_seen more = go passes
      where
        same : all_seen_on m (take top.taken path ++ more) below ≡ all_seen_on m path below
        same = all_seen m path more top.taken last_stands.within below low_below

        go : Passes below top rest → all_seen_on m (take top.taken path ++ more) rest ≡ all_seen_on m path below ++ others_of (seen_on m path top) (line_in top)
        go (inl gone) =
            ap (all_seen_on m (take top.taken path ++ more)) gone.1 ∙ same ∙ sym (append-nil (all_seen_on m path below))
            ∙ ap (λ xs. all_seen_on m path below ++ others_of (seen_on m path top) (steps_in (top.next ∷ reverse xs))) (sym gone.0)
        go (inr g) =
            let low : g.frame.taken ≤ top.taken = omega (arith, g.goes.taken) in
            let own : seen_on m (take top.taken path ++ more) g.frame ∷ [] ≡ others_of (seen_on m path top) (line_in top) =
            ap (λ x. x ∷ []) (seen_stays m path more top.taken last_stands.within g.frame low)
            ∙ ap (λ n. frame_seen m (history_at m path n) g.frame ∷ []) g.goes.taken
            ∙ goes_seen m (history_at m path top.taken) top g.frame g.goes in
            ap (all_seen_on m (take top.taken path ++ more)) g.is
            ∙ map_join (seen_on m (take top.taken path ++ more)) below (g.frame ∷ [])
            ∙ (λ i. same i ++ own i)

  -- ---- the next child

  module _ (e : Event) (next : next_event (program_of m) (history_at m path top.taken) top.next.value.step ≡ Some e) where
    -- the path leads there
    pub reached : run (program_of m) (take top.taken path ++ top.next.value.step ∷ []) ≡ Some (e ∷ history_at m path top.taken)
    reached = one_more (program_of m) (take top.taken path) (history_at m path top.taken) top.next.value.step last_stands.reached ∙ ap (extended (history_at m path top.taken)) next

    pub schedule_is : schedule_of (e ∷ history_at m path top.taken) ≡ take top.taken path ++ top.next.value.step ∷ []
    schedule_is = (runs_real (program_of m) (take top.taken path ++ top.next.value.step ∷ []) (e ∷ history_at m path top.taken) reached).1

    pub goes_there : run (program_of m) (schedule_of (e ∷ history_at m path top.taken)) ≡ Some (e ∷ history_at m path top.taken)
    goes_there = ap (run (program_of m)) schedule_is ∙ reached

-- what happened after a whole path that is a run
pub history_whole : (m : ModuleTree) (path : List Step) (h : History) (n : ℕ) → n ≡ length path → run (program_of m) path ≡ Some h → history_at m path n ≡ h
history_whole m path h n all runs = ap (λ s. or_nothing (run (program_of m) s)) (take_all n path (omega (arith, all))) ∙ ap or_nothing runs

pub whole_runs : (m : ModuleTree) (path : List Step) (h : History) (n : ℕ) → n ≡ length path → run (program_of m) path ≡ Some h → run (program_of m) (take n path) ≡ Some (history_at m path n)
whole_runs m path h n all runs = ap (run (program_of m)) (take_all n path (omega (arith, all))) ∙ runs ∙ ap Some (sym (history_whole m path h n all runs))

-- a history that a schedule reaches is a run
pub is_run_of : (a : Program) (m : ModuleTree) (s : List Step) (h : History) → program_of m ≡ a → run a s ≡ Some h → IsRun (program_of m) h
is_run_of a m s h same runs = subst (λ b. IsRun b h) (sym same) (runs_real a s h runs).0
