-- Lists in order, and that the steps that may be taken are in order.
use Rattle.std.proofs.Common.{◌≡◌, inl, inr, List, [], ◌∷◌, ◌++◌, filter, map, refl, sym, subst}
use Rattle.std.specs.List.Sorted.{IsStrictlySortedBy}
use Rattle.std.specs.declared.cmp.Ordering.{Ordering}
use Rattle.std.specs.declared.cmp.Ordering.TheVariants.{Less}
use Rattle.search_levels.specs.Arrivals.{Arrived}
use Rattle.search_levels.proofs.Placed.{all_front, all_last, all_more}
use Rattle.term_core.specs.StepOrder.{order_of_steps}
use Rattle.term_core.specs.declared.step.Step.{Step}
use Rattle.tree_coverage.proofs.Lists.{all_among, among_map}
use Rattle.tree_schedules.specs.Deliveries.{first_or_all, is_at_once, steps_by}
use Rattle.tree_schedules.specs.declared.delivery.Delivery.{Delivery}
use Rattle.tree_schedules.specs.declared.delivery.Delivery.TheVariants.{AnyTime, AtOnce}
use Rattle.world_model.proofs.Opened.{listed_in_order}
use Rattle.world_model.proofs.StepLists.{comes}
use Rattle.world_model.specs.Events.{History}
use Rattle.world_model.specs.Names.{IsAmong}
use Rattle.world_model.specs.Requests.{Program}
use Rattle.world_model.specs.Run.{enabled_steps}
use Rattle.world_model.specs.StepLaws.{AreInOrder}

-- ---- one element more

module _ {X : Type 0} (order : X → X → Ordering) where
  pub sorted_none : IsStrictlySortedBy order []
  unfolding IsStrictlySortedBy
  sorted_none = tt

  pub sorted_more : (xs : List X) (y : X) → IsStrictlySortedBy order xs → ((x : X) → IsAmong x xs → order x y ≡ Less) → IsStrictlySortedBy order (xs ++ y ∷ [])
  unfolding IsStrictlySortedBy
  sorted_more [] y sorted before = (tt, tt)
  sorted_more (x ∷ xs) y sorted before = (all_more (λ z. order x z ≡ Less) xs y sorted.0 (before x (inl refl)), sorted_more xs y sorted.1 (λ z there. before z (inr there)))

  pub sorted_front : (xs : List X) (y : X) → IsStrictlySortedBy order (xs ++ y ∷ []) → IsStrictlySortedBy order xs
  unfolding IsStrictlySortedBy
  sorted_front [] y sorted = tt
  sorted_front (x ∷ xs) y sorted = (all_front (λ z. order x z ≡ Less) xs y sorted.0, sorted_front xs y sorted.1)

  pub before_last : (xs : List X) (y : X) → IsStrictlySortedBy order (xs ++ y ∷ []) → (x : X) → IsAmong x xs → order x y ≡ Less
  unfolding IsStrictlySortedBy
  before_last [] y sorted x there = absurd there
  before_last (z ∷ xs) y sorted x (inl e) = subst (λ w. order w y ≡ Less) e (all_last (λ w. order z w ≡ Less) xs y sorted.0)
  before_last (z ∷ xs) y sorted x (inr there) = before_last xs y sorted.1 x there

-- ---- steps

abbrev pub StepsInOrder : List Arrived → Type 0
StepsInOrder rs = IsStrictlySortedBy (λ (x y : Arrived). order_of_steps x.of.step y.of.step) rs

first_in_order : (ds es : List Step) → AreInOrder es → AreInOrder (first_or_all ds es)
first_in_order [] es sorted = sorted
first_in_order (d ∷ ds) es sorted = (tt, tt)

in_order_by : (d : Delivery) (a : Program) (h : History) → AreInOrder (steps_by d a h)
in_order_by AnyTime a h = listed_in_order a h
in_order_by AtOnce a h = first_in_order (filter (is_at_once h) (enabled_steps a h)) (enabled_steps a h) (listed_in_order a h)

steps_sorted : (rs : List Arrived) → AreInOrder (map (λ r. r.of.step) rs) → StepsInOrder rs
unfolding IsStrictlySortedBy
steps_sorted [] sorted = tt
steps_sorted (r ∷ rs) sorted = (all_among (λ z. order_of_steps r.of.step z.of.step ≡ Less) rs (λ z there. comes r.of.step z.of.step (map (λ r. r.of.step) rs) sorted.0 (among_map (λ r. r.of.step) rs z there)), steps_sorted rs sorted.1)

-- what comes by the steps that may be taken, in their order, comes in order
pub arrivals_sorted : (d : Delivery) (a : Program) (h : History) (rs : List Arrived) → map (λ r. r.of.step) rs ≡ steps_by d a h → StepsInOrder rs
arrivals_sorted d a h rs is = steps_sorted rs (subst AreInOrder (sym is) (in_order_by d a h))
