-- The enabled steps of a world, which are taken one after the other, and what is shown after each where none is enabled.
use Rattle.std.proofs.Common.{◌≡◌, ◌∙◌, ℕ, true, false, List, [], ◌∷◌, ◌++◌, Some, None, map, refl, sym, ap, subst, append_assoc, append-nil}
use Rattle.std.proofs.lemmas.List.{map-append}
use Rattle.std.specs.List.{AllByRecursion}
use Rattle.core_tree.specs.Syntax.{ModuleTree}
use Rattle.search_agenda.proofs.Putting.{all_append}
use Rattle.search_expansion.specs.inside.Nodes.{AddsDeadlock}
use Rattle.search_levels.specs.Arrivals.{AreArrivals, Arrived, IsArrival, is_some_step, of_module}
use Rattle.search_levels.specs.declared.arrival.Arrival.{Arrival}
use Rattle.search_numbers.specs.Knowing.{AreAt, FirstIs, IsAfter, IsEnabledAt}
use Rattle.search_numbers.specs.declared.known.Known.{Known}
use Rattle.search_numbers.specs.Rows.{numbers_in}
use Rattle.search_states.specs.inside.Keeping.{IsKept}
use Rattle.term_core.specs.declared.step.Step.{Step}
use Rattle.tree_schedules.specs.Deliveries.{first_or_all}
use Rattle.tree_schedules.specs.declared.delivery.Delivery.TheVariants.{AnyTime}
use Rattle.world_model.specs.Asking.{program_of}
use Rattle.world_model.specs.Events.{History}
use Rattle.world_model.specs.Run.{enabled_steps, next_event}
use Rattle.world_model.specs.Shown as told
use Rattle.world_model.specs.Shown.{shown_at_rest}

-- ---- deadlocks

-- where a step is enabled there is none
pub goes_on : (old : List told.Identity) (steps : List Step) (h : History) → true ≡ is_some_step steps → old ≡ old ++ shown_at_rest steps h
goes_on old [] h is = absurd cc
goes_on old (step ∷ steps) h is = sym (append-nil old)

-- where none is, it is that of the processes that live, and what they leave unread comes after it
pub stands_still : (old new : List told.Identity) (steps : List Step) (h : History) → false ≡ is_some_step steps → new ≡ old ++ shown_at_rest [] h → new ≡ old ++ shown_at_rest steps h
stands_still old new [] h is added = added
stands_still old new (step ∷ steps) h is added = absurd cc

-- ---- what is after a step

pub arrives : (later : Known) (m : ModuleTree) (h : History) (step : Step) (row : List ℕ) (taken to : Arrival) → to.step ≡ taken.step → taken.step ≡ step
    → ((e : IsAfter later.store m h step (numbers_in row) taken) → AddsDeadlock (program_of m) (e.event ∷ h) taken.shown.items to.shown.items) → IsAfter later.store m h step (numbers_in row) taken
    → IsArrival (of_module (IsKept later) m) (program_of m) h (record { of = to; row = row })
arrives later m h step row taken to same is adds e = record {
  event = e.event;
  is_next = ap (next_event (program_of m) h) (same ∙ is) ∙ e.is_next;
  agrees = (refl, e.are);
  shown = adds e ∙ ap (λ (xs : List told.Identity). xs ++ shown_at_rest (enabled_steps (program_of m) (e.event ∷ h)) (e.event ∷ h)) e.shown;
}

-- ---- those that were taken, and those that are left

-- each arrival so far is one, and what is left of the enabled steps is remembered at these places
pub record AreSoFar (first : Known) (numbers : ℕ → ℕ) (later : Known) (m : ModuleTree) (h : History) (rs : List Arrived) (places : List ℕ) : Type 0 where
  pub left : List Step
  pub steps : map (λ r. r.of.step) rs ++ left ≡ enabled_steps (program_of m) h
  pub each : AllByRecursion (IsArrival (of_module (IsKept later) m) (program_of m) h) rs
  pub remembered : AreAt first numbers left places

module _ (first : Known) (numbers : ℕ → ℕ) (later : Known) (m : ModuleTree) (h : History) where
  abbrev IsOne : Arrived → Type 0
  IsOne r = IsArrival (of_module (IsKept later) m) (program_of m) h r

  pub none_so_far : (rs : List Arrived) (places : List ℕ) → rs ≡ [] → AreAt first numbers (enabled_steps (program_of m) h) places → AreSoFar first numbers later m h rs places
  none_so_far rs places none are = record {
    left = enabled_steps (program_of m) h;
    steps = ap (λ (xs : List Arrived). map (λ r. r.of.step) xs ++ enabled_steps (program_of m) h) none;
    each = subst (AllByRecursion IsOne) (sym none) tt;
    remembered = are;
  }

  more_left : (rs more : List Arrived) (r : Arrived) (at : ℕ) (places : List ℕ) (left : List Step) → map (λ r. r.of.step) rs ++ left ≡ enabled_steps (program_of m) h → AllByRecursion IsOne rs → AreAt first numbers left (at ∷ places) → more ≡ rs ++ r ∷ []
      → ((step : Step) → IsEnabledAt first numbers step at → (r.of.step ≡ step) × IsOne r) → AreSoFar first numbers later m h more places
  more_left rs more r at places [] steps each are now is = absurd are
  more_left rs more r at places (step ∷ left) steps each are now is =
      let one = is step are.0 in
      record {
        left = left;
        steps =
            ap (λ (xs : List Arrived). map (λ x. x.of.step) xs ++ left) now
            ∙ ap (λ (xs : List Step). xs ++ left) (map-append (λ (x : Arrived). x.of.step) rs (r ∷ []))
            ∙ append_assoc (map (λ (x : Arrived). x.of.step) rs) (r.of.step ∷ []) left
            ∙ ap (λ s. map (λ (x : Arrived). x.of.step) rs ++ s ∷ left) one.0
            ∙ steps;
        each = subst (AllByRecursion IsOne) (sym now) (all_append IsOne rs (r ∷ []) each (one.1, tt));
        remembered = are.1;
      }

  -- the step at the first place that is left comes next
  pub one_more : (rs more : List Arrived) (r : Arrived) (at : ℕ) (places : List ℕ) → AreSoFar first numbers later m h rs (at ∷ places) → more ≡ rs ++ r ∷ []
      → ((step : Step) → IsEnabledAt first numbers step at → (r.of.step ≡ step) × IsOne r) → AreSoFar first numbers later m h more places
  one_more rs more r at places so_far now is = more_left rs more r at places so_far.left so_far.steps so_far.each so_far.remembered now is

  nothing_left : (left : List Step) → AreAt first numbers left [] → left ≡ []
  nothing_left [] are = refl
  nothing_left (step ∷ left) are = absurd are

  pub all_so_far : (rs : List Arrived) → AreSoFar first numbers later m h rs [] → AreArrivals AnyTime (of_module (IsKept later) m) (program_of m) h rs
  all_so_far rs so_far = record {
    steps = sym (append-nil (map (λ r. r.of.step) rs)) ∙ ap (λ (xs : List Step). map (λ r. r.of.step) rs ++ xs) (sym (nothing_left so_far.left so_far.remembered)) ∙ so_far.steps;
    each = so_far.each;
  }

-- ---- where signals are delivered at once

-- a first delivery is the one step that may be taken
pub one_prompt : (known : Known) (numbers : ℕ → ℕ) (at : ℕ) (ds steps : List Step) → FirstIs known numbers ds (Some at) → (step : Step) × IsEnabledAt known numbers step at × (first_or_all ds steps ≡ step ∷ [])
one_prompt known numbers at [] steps is = absurd is
one_prompt known numbers at (d ∷ ds) steps is = (d, is, refl)

-- where there is none, all are
pub all_prompt : (known : Known) (numbers : ℕ → ℕ) (ds steps : List Step) → FirstIs known numbers ds None → first_or_all ds steps ≡ steps
all_prompt known numbers [] steps is = refl
all_prompt known numbers (d ∷ ds) steps is = absurd is
