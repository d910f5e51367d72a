-- When signals are delivered, step by step.
use Rattle.std.proofs.Common.{◌≡◌, ◌⊎◌, ◌↔◌, inl, inr, ℕ, ◌≤◌, List, [], ◌∷◌, ◌++◌, filter, length, Option, Some, None, refl, sym, ap, subst, ◌∙◌, append_assoc}
use Rattle.term_core.specs.declared.step.Step.{Step}
use Rattle.tree_coverage.specs.Shown.{RunShows}
use Rattle.tree_coverage.proofs.Instance.{choice_laws, take}
use Rattle.tree_coverage.proofs.Lists.{from_theory, kept_passes}
use Rattle.tree_schedules.specs.Deliveries.{DeliversBy, first_or_all, is_at_once, prompt_steps, steps_by}
use Rattle.tree_schedules.specs.Schedules.{IsEverShownBy, IsShownBy}
use Rattle.tree_schedules.specs.declared.delivery.Delivery.{Delivery}
use Rattle.tree_schedules.specs.declared.delivery.Delivery.TheVariants.{AnyTime, AtOnce}
use Rattle.world_model.specs.Events.{Event, History}
use Rattle.world_model.specs.Names.{IsAmong}
use Rattle.world_model.specs.Requests.{Program}
use Rattle.world_model.specs.Run.{enabled_steps, extended, next_event, run, run_from}
use Rattle.world_model.specs.Shown.{Identity}

-- ---- steps that may be taken are enabled

-- an enabled step is listed
pub listed : (a : Program) (h : History) (x : Step) (e : Event) → next_event a h x ≡ Some e → IsAmong x (enabled_steps a h)
listed a h x e next = from_theory (enabled_steps a h) x ((choice_laws a).has_enabled h x tt (take a h x e next))

first_is_kept : (ds es : List Step) (x : Step) → ((y : Step) → IsAmong y ds → IsAmong y es) → IsAmong x (first_or_all ds es) → IsAmong x es
first_is_kept [] es x of there = there
first_is_kept (d ∷ ds) es x of (inl e) = of x (inl e)
first_is_kept (d ∷ ds) es x of (inr never) = absurd never

pub steps_enabled : (d : Delivery) (a : Program) (h : History) (x : Step) → IsAmong x (steps_by d a h) → IsAmong x (enabled_steps a h)
steps_enabled AnyTime a h x there = there
steps_enabled AtOnce a h x there = first_is_kept (filter (is_at_once h) (enabled_steps a h)) (enabled_steps a h) x (λ y kept. (kept_passes (is_at_once h) (enabled_steps a h) y kept).1) there

-- some step may be taken exactly where one is enabled
none_by : (ds es : List Step) → first_or_all ds es ≡ [] → es ≡ []
none_by [] es e = e
none_by (d ∷ ds) es e = absurd cc

pub some_step_by : (d : Delivery) (a : Program) (h : History) → (steps_by d a h ≡ []) ↔ (enabled_steps a h ≡ [])
some_step_by AnyTime a h = (λ e. e, λ e. e)
some_step_by AtOnce a h = (none_by (filter (is_at_once h) (enabled_steps a h)) (enabled_steps a h), λ e. ap (λ es. first_or_all (filter (is_at_once h) es) es) e)

-- ---- runs of one more step

some_is : {X : Type 0} {x y : X} → Some x ≡ Some y → x ≡ y
some_is e = cc

pub run_more : (a : Program) (o : Option History) (s : List Step) (x : Step) (h : History) (e : Event) → run_from a o s ≡ Some h → next_event a h x ≡ Some e → run_from a o (s ++ x ∷ []) ≡ Some (e ∷ h)
run_more a None s x h e now next = absurd cc
run_more a (Some g) [] x h e now next =
    ap (λ k. run_from a (extended k (next_event a k x)) []) (some_is now) ∙ ap (λ o. run_from a (extended h o) []) next
run_more a (Some g) (y ∷ s) x h e now next = run_more a (extended g (next_event a g y)) s x h e now next

-- ---- schedules of one more step

cons_head : {X : Type 0} {x y : X} {xs ys : List X} → x ∷ xs ≡ y ∷ ys → x ≡ y
cons_head e = cc

cons_tail : {X : Type 0} {x y : X} {xs ys : List X} → x ∷ xs ≡ y ∷ ys → xs ≡ ys
cons_tail e = cc

never_empty : {X : Type 0} (xs ys : List X) (y : X) → [] ≡ xs ++ (y ∷ ys) → ⊥
never_empty [] ys y e = absurd cc
never_empty (x ∷ xs) ys y e = absurd cc

-- where an element of a list with one more stands: last, or in the list
Placed : {X : Type 0} → List X → X → List X → X → Type 0
Placed {X} s x before y = ((before ≡ s) × (y ≡ x)) ⊎ ((rest : List X) × (s ≡ before ++ (y ∷ rest)))

placed : {X : Type 0} (s : List X) (x : X) (before : List X) (y : X) (after : List X) → s ++ (x ∷ []) ≡ before ++ (y ∷ after) → Placed s x before y
unfolding Placed
placed [] x [] y after e = inl (refl, sym (cons_head e))
placed (z ∷ s) x [] y after e = inr (s, ap (λ w. w ∷ s) (cons_head e))
placed [] x (b ∷ before) y after e = absurd (never_empty before after y (cons_tail e))
placed (z ∷ s) x (b ∷ before) y after e = elim (placed s x before y after (cons_tail e)) [
  | inl p ↦ inl ((λ i. sym (cons_head e) i ∷ p.0 i), p.1)
  | inr r ↦ inr (r.0, (λ i. cons_head e i ∷ r.1 i))
]

pub delivers_none : (d : Delivery) (a : Program) → DeliversBy d a []
delivers_none AnyTime a = tt
delivers_none AtOnce a = λ before after step h e now. absurd (never_empty before after step e)

pub delivers_more : (d : Delivery) (a : Program) (s : List Step) (x : Step) (h : History) → DeliversBy d a s → run a s ≡ Some h → IsAmong x (steps_by d a h) → DeliversBy d a (s ++ x ∷ [])
unfolding Placed
delivers_more AnyTime a s x h is now there = tt
delivers_more AtOnce a s x h is now there = λ before after step g e runs. elim (placed s x before step after e) [
  | inl p ↦
      let same : g ≡ h = some_is (sym runs ∙ ap (run a) p.0 ∙ now) in
      subst (λ k. IsAmong step (prompt_steps a k)) (sym same) (subst (λ y. IsAmong y (prompt_steps a h)) (sym p.1) there)
  | inr r ↦ is before r.0 step g r.1 runs
]

pub delivers_before : (d : Delivery) (a : Program) (s t : List Step) → DeliversBy d a (s ++ t) → DeliversBy d a s
delivers_before AnyTime a s t is = tt
delivers_before AtOnce a s t is = λ before after step h e now. is before (after ++ t) step h (ap (λ r. r ++ t) e ∙ append_assoc before (step ∷ after) t) now

pub delivers_front : (d : Delivery) (a : Program) (s : List Step) (x : Step) → DeliversBy d a (s ++ x ∷ []) → DeliversBy d a s
delivers_front d a s x is = delivers_before d a s (x ∷ []) is

-- the step after the first ones may be taken then
pub delivers_at : (d : Delivery) (a : Program) (s : List Step) (x : Step) (t : List Step) (h : History) (e : Event) → DeliversBy d a (s ++ x ∷ t) → run a s ≡ Some h → next_event a h x ≡ Some e → IsAmong x (steps_by d a h)
delivers_at AnyTime a s x t h e is now next = listed a h x e next
delivers_at AtOnce a s x t h e is now next = is s t x h refl now

pub delivers_last : (d : Delivery) (a : Program) (s : List Step) (x : Step) (h : History) (e : Event) → DeliversBy d a (s ++ x ∷ []) → run a s ≡ Some h → next_event a h x ≡ Some e → IsAmong x (steps_by d a h)
delivers_last d a s x h e is now next = delivers_at d a s x [] h e is now next

-- ---- what is shown by such a schedule

pub to_shown_by : (d : Delivery) (a : Program) (n : ℕ) (i : Identity) (s : List Step) → length s ≤ n → DeliversBy d a s → RunShows a s i → IsShownBy d a n i
to_shown_by AnyTime a n i s short is shows = (s, short, shows)
to_shown_by AtOnce a n i s short is shows = (s, short, is, shows)

pub from_shown_by : (d : Delivery) (a : Program) (n : ℕ) (i : Identity) → IsShownBy d a n i → (s : List Step) × (length s ≤ n) × DeliversBy d a s × RunShows a s i
from_shown_by AnyTime a n i shown = (shown.0, shown.1, tt, shown.2)
from_shown_by AtOnce a n i shown = shown

pub to_ever_shown_by : (d : Delivery) (a : Program) (i : Identity) (s : List Step) → DeliversBy d a s → RunShows a s i → IsEverShownBy d a i
to_ever_shown_by AnyTime a i s is shows = (s, shows)
to_ever_shown_by AtOnce a i s is shows = (s, is, shows)

pub from_ever_shown_by : (d : Delivery) (a : Program) (i : Identity) → IsEverShownBy d a i → (s : List Step) × DeliversBy d a s × RunShows a s i
from_ever_shown_by AnyTime a i shown = (shown.0, tt, shown.1)
from_ever_shown_by AtOnce a i shown = shown
