-- A state is put into a level, or is there already.
use Rattle.std.proofs.Common.{◌≡◌, inl, inr, ℕ, List, [], ◌∷◌, ◌++◌, length, Some, refl, sym, subst}
use Rattle.std.specs.declared.cmp.Ordering.TheVariants.{Less}
use Rattle.search_levels.specs.inside.Levels.{AreAt, AreBefore, ComeInOrder, IsAt, IsCovered, Keeps, TakesIn}
use Rattle.search_levels.specs.inside.Paths.{schedule_in}
use Rattle.search_levels.specs.inside.Visits.{Visit}
use Rattle.search_levels.proofs.InOrder.{sorted_more}
use Rattle.search_levels.proofs.Orders.{less_chain, less_up, up_to_chain}
use Rattle.term_core.specs.StepOrder.{order_of_schedules}
use Rattle.term_core.specs.declared.step.Step.{Step}
use Rattle.tree_schedules.specs.Deliveries.{DeliversBy}
use Rattle.tree_schedules.specs.StandIns.{IsUpTo}
use Rattle.tree_schedules.specs.declared.delivery.Delivery.{Delivery}
use Rattle.tree_coverage.proofs.Lists.{among_append, among_left, among_right}
use Rattle.world_model.specs.Events.{History}
use Rattle.world_model.specs.Names.{IsAmong}
use Rattle.world_model.specs.Requests.{Program}
use Rattle.world_model.specs.Run.{run}

-- ---- what a level covers

-- a level covers what it did, and what a state agrees with to which this schedule leads; it comes in order up to the schedule
pub record PutsAt (d : Delivery) (Agrees : List ℕ → Program → History → Type 0) (a : Program) (k : ℕ) (old : List Visit) (schedule : List Step) (state : List ℕ) (after : List Visit) : Type 0 where
  pub at : AreAt d Agrees a k after
  pub in_order : ComeInOrder after
  pub before : (s : List Step) → order_of_schedules schedule s ≡ Less → AreBefore after s
  pub keeps : Keeps Agrees a old after
  pub covers : (s : List Step) (h : History) → Agrees state a h → IsUpTo schedule s → IsCovered Agrees a after s h

-- so it is where it came in order, and all of it before the schedule
abbrev pub Puts : (List ℕ → Program → History → Type 0) → List Visit → List Step → List ℕ → List Visit → Type 0
Puts Agrees old schedule state after =
    (d : Delivery) (a : Program) (k : ℕ) (h : History) → length schedule ≡ k → DeliversBy d a schedule → run a schedule ≡ Some h → Agrees state a h → AreAt d Agrees a k old → ComeInOrder old → AreBefore old schedule → PutsAt d Agrees a k old schedule state after

module _ (Agrees : List ℕ → Program → History → Type 0) where
  -- one that is the same came before
  pub is_there : (old : List Visit) (schedule : List Step) (row : List ℕ) (x : Visit) → IsAmong x old → x.row ≡ row → Puts Agrees old schedule row old
  is_there old schedule row x there same d a k h len delivers runs agrees at in_order before = record {
    at = at;
    in_order = in_order;
    before = λ s less y t. less_chain (schedule_in y.of) schedule s (before y t) less;
    keeps = λ s g c. c;
    covers = λ s g more up.
        let x_at : IsAt d Agrees a k x = at x there in
        (x, there, subst (λ r. Agrees r a g) (sym same) more, up_to_chain (schedule_in x.of) schedule s (less_up (schedule_in x.of) schedule (before x there)) up);
  }

  pub puts_last : (old : List Visit) (new : Visit) → Puts Agrees old (schedule_in new.of) new.row (old ++ new ∷ [])
  puts_last old new d a k h len delivers runs agrees at in_order before = record {
    at = λ z there. elim (among_append old (new ∷ []) z there) [ inl t ↦ at z t | inr t ↦ only z t ];
    in_order = sorted_more (λ (x y : Visit). order_of_schedules (schedule_in x.of) (schedule_in y.of)) old new in_order before;
    before = λ s less z there. elim (among_append old (new ∷ []) z there) [ inl t ↦ less_chain (schedule_in z.of) (schedule_in new.of) s (before z t) less | inr t ↦ only_before s less z t ];
    keeps = λ s g c. (c.0, among_left old (new ∷ []) c.0 c.1, c.2, c.3);
    covers = λ s g more up. (new, among_right old (new ∷ []) new (inl refl), more, up);
  }
    where
      only : (z : Visit) → IsAmong z (new ∷ []) → IsAt d Agrees a k z
      only z (inl e) = subst (λ v. IsAt d Agrees a k v) e (len, delivers, h, runs, agrees)
      only z (inr never) = absurd never

      only_before : (s : List Step) → order_of_schedules (schedule_in new.of) s ≡ Less → (z : Visit) → IsAmong z (new ∷ []) → order_of_schedules (schedule_in z.of) s ≡ Less
      only_before s less z (inl e) = subst (λ (v : Visit). order_of_schedules (schedule_in v.of) s ≡ Less) e less
      only_before s less z (inr never) = absurd never

  pub puts_after : (old all : List Visit) (new : Visit) → all ≡ old ++ new ∷ [] → Puts Agrees old (schedule_in new.of) new.row all
  puts_after old all new is = subst (Puts Agrees old (schedule_in new.of) new.row) (sym is) (puts_last old new)

-- ---- which states can be read

module _ (IsOf : List ℕ → Type 0) where
  pub takes_last : (old all : List Visit) (new : Visit) → all ≡ old ++ new ∷ [] → TakesIn IsOf old new.row all
  takes_last old all new is before one z there = elim (among_append old (new ∷ []) z (subst (IsAmong z) is there)) [ inl t ↦ before z t | inr t ↦ only t ]
    where
      only : IsAmong z (new ∷ []) → IsOf z.row
      only (inl e) = subst (λ (v : Visit). IsOf v.row) e one
      only (inr never) = absurd never
