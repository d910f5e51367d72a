-- The lists of links, watches and tables are in order, each item once, after every change.
use Rattle.std.proofs.Common.{◌≡◌, inl, inr, true≢false, Bool, true, false, ◌&&◌, ◌||◌, List, [], ◌∷◌, sym, ap, subst, if◌then◌else◌, ◌∙◌}
use Rattle.std.specs.Cmp.{IsTotalOrder, on_total}
use Rattle.std.specs.Cmp.Lexicographic.{nat_list_cmp_total}
use Rattle.std.specs.List.{list_any}
use Rattle.std.specs.Prelude.{ℕ, not}
use Rattle.std.specs.declared.cmp.Ordering.TheVariants.{Equal}
use Rattle.term_core.specs.Order.{order_of_lists}
use Rattle.term_core.specs.inside.OrderLaws.{same_list}
use Rattle.term_core.specs.inside.StepOrderLaws.{reference_ids_total, same_reference_id}
use Rattle.world_model.specs.Cells.{Contents, Links, Watchers, Owned, meet}
use Rattle.world_model.specs.Changes.{Change, PartnerAdded, PartnerRemoved, WatcherAdded, WatcherRemoved, OwnedAdded, OwnedRemoved, OwnedCleared, CellTouched, changed, after, set_in_order, without_first}
use Rattle.world_model.specs.Events.{History}
use Rattle.world_model.specs.Names.{Pid, Ref, IsAmong, same_pid, same_ref, order_of_refs}
use Rattle.world_model.specs.Steps.{changes_by}
use Rattle.world_model.specs.World.{contents}
use Rattle.world_model.proofs.Commuting.{either_way, either_is}
use Rattle.world_model.proofs.InOrder.{InOrder, turned, set_sorted, without_sorted, put_in_order, gone_in_order}
use Rattle.world_model.proofs.Meeting.{pids_same, pid_itself, refs_same, ref_itself}

-- ---- pids and references

refs_total : IsTotalOrder order_of_refs
refs_total = on_total (λ (r : Ref). (r.pid, r.number)) reference_ids_total

equal_refs : (t u : Ref) → order_of_refs t u ≡ Equal → t ≡ u
equal_refs t u is = ap (λ (r : Pid × ℕ). record { pid = r.0; number = r.1 }) (same_reference_id (t.pid, t.number) (u.pid, u.number) is)

pub pid_turned : (p q : Pid) (b : Bool) → same_pid p q ≡ b → same_pid q p ≡ b
pid_turned = turned order_of_lists nat_list_cmp_total same_pid same_list pids_same pid_itself

pub pid_put : (x z : Pid) (ys : List Pid) → list_any (same_pid z) (set_in_order order_of_lists x ys) ≡ (same_pid x z || list_any (same_pid z) ys)
pid_put = put_in_order order_of_lists nat_list_cmp_total same_pid same_list pids_same pid_itself

pub pid_gone : (x z : Pid) (ys : List Pid) → InOrder order_of_lists ys → list_any (same_pid z) (without_first (same_pid x) ys) ≡ (not (same_pid x z) && list_any (same_pid z) ys)
pid_gone = gone_in_order order_of_lists nat_list_cmp_total same_pid same_list pids_same pid_itself

pub ref_put : (x z : Ref) (ys : List Ref) → list_any (same_ref z) (set_in_order order_of_refs x ys) ≡ (same_ref x z || list_any (same_ref z) ys)
ref_put = put_in_order order_of_refs refs_total same_ref equal_refs refs_same ref_itself

pub ref_gone : (x z : Ref) (ys : List Ref) → InOrder order_of_refs ys → list_any (same_ref z) (without_first (same_ref x) ys) ≡ (not (same_ref x z) && list_any (same_ref z) ys)
ref_gone = gone_in_order order_of_refs refs_total same_ref equal_refs refs_same ref_itself

-- what is among others is found there
module _ {A : Type 0} (same : A → A → Bool) (found : (x y : A) → same x y ≡ true → x ≡ y) (itself : (x : A) → same x x ≡ true) where
  any_of : (x : A) (ys : List A) → IsAmong x ys → list_any (same x) ys ≡ true
  any_of x [] there = absurd there
  any_of x (y ∷ ys) (inl is) = ap (λ b. b || list_any (same x) ys) (ap (same x) is ∙ itself x)
  any_of x (y ∷ ys) (inr there) = elim (either_is (same x y)) [
    | inl is ↦ ap (λ b. b || list_any (same x) ys) is
    | inr other ↦ ap (λ b. b || list_any (same x) ys) other ∙ any_of x ys there
  ]

  among_those : (x : A) (ys : List A) → list_any (same x) ys ≡ true → IsAmong x ys
  among_those x [] there = absurd (true≢false (sym there))
  among_those x (y ∷ ys) there = elim (either_is (same x y)) [
    | inl is ↦ inl (sym (found x y is))
    | inr other ↦ inr (among_those x ys (sym (ap (λ b. b || list_any (same x) ys) other) ∙ there))
  ]

pub any_pid : (x : Pid) (ys : List Pid) → IsAmong x ys → list_any (same_pid x) ys ≡ true
any_pid = any_of same_pid pids_same pid_itself

pub among_pids : (x : Pid) (ys : List Pid) → list_any (same_pid x) ys ≡ true → IsAmong x ys
among_pids = among_those same_pid pids_same pid_itself

pub any_ref : (x : Ref) (ys : List Ref) → IsAmong x ys → list_any (same_ref x) ys ≡ true
any_ref = any_of same_ref refs_same ref_itself

pub among_refs : (x : Ref) (ys : List Ref) → list_any (same_ref x) ys ≡ true → IsAmong x ys
among_refs = among_those same_ref refs_same ref_itself

-- ---- after every change

pub record AreListed (v : Contents) : Type 0 where
  pub links : (p : Pid) → InOrder order_of_lists (v (Links p))
  pub watches : (p : Pid) → InOrder order_of_refs (v (Watchers p))
  pub tables : (p : Pid) → InOrder order_of_refs (v (Owned p))

pub pids_if : (b : Bool) (xs ys : List Pid) → InOrder order_of_lists xs → InOrder order_of_lists ys → InOrder order_of_lists (if b then xs else ys)
pids_if true xs ys here there = here
pids_if false xs ys here there = there

refs_if : (b : Bool) (xs ys : List Ref) → InOrder order_of_refs xs → InOrder order_of_refs ys → InOrder order_of_refs (if b then xs else ys)
refs_if true xs ys here there = here
refs_if false xs ys here there = there

one_listed : (k : Change) (v : Contents) → AreListed v → AreListed (changed k v)
one_listed (PartnerAdded p q) v all = record { links = λ x. pids_if (same_pid p x) _ _ (set_sorted order_of_lists nat_list_cmp_total q (v (Links x)) (all.links x)) (all.links x); watches = all.watches; tables = all.tables }
one_listed (PartnerRemoved p q) v all = record { links = λ x. pids_if (same_pid p x) _ _ (without_sorted order_of_lists nat_list_cmp_total (same_pid q) (v (Links x)) (all.links x)) (all.links x); watches = all.watches; tables = all.tables }
one_listed (WatcherAdded p ref) v all = record { links = all.links; watches = λ x. refs_if (same_pid p x) _ _ (set_sorted order_of_refs refs_total ref (v (Watchers x)) (all.watches x)) (all.watches x); tables = all.tables }
one_listed (WatcherRemoved p ref) v all = record { links = all.links; watches = λ x. refs_if (same_pid p x) _ _ (without_sorted order_of_refs refs_total (same_ref ref) (v (Watchers x)) (all.watches x)) (all.watches x); tables = all.tables }
one_listed (OwnedAdded p t) v all = record { links = all.links; watches = all.watches; tables = λ x. refs_if (same_pid p x) _ _ (set_sorted order_of_refs refs_total t (v (Owned x)) (all.tables x)) (all.tables x) }
one_listed (OwnedRemoved p t) v all = record { links = all.links; watches = all.watches; tables = λ x. refs_if (same_pid p x) _ _ (without_sorted order_of_refs refs_total (same_ref t) (v (Owned x)) (all.tables x)) (all.tables x) }
one_listed (OwnedCleared p) v all = record { links = all.links; watches = all.watches; tables = λ x. refs_if (same_pid p x) [] (v (Owned x)) tt (all.tables x) }
one_listed (CellTouched c) v all = record {
  links = λ x. subst (InOrder order_of_lists) (sym (either_way (meet c (Links x)) (v (Links x)))) (all.links x);
  watches = λ x. subst (InOrder order_of_refs) (sym (either_way (meet c (Watchers x)) (v (Watchers x)))) (all.watches x);
  tables = λ x. subst (InOrder order_of_refs) (sym (either_way (meet c (Owned x)) (v (Owned x)))) (all.tables x);
}
one_listed k v all = record { links = all.links; watches = all.watches; tables = all.tables }

pub all_listed : (ks : List Change) (v : Contents) → AreListed v → AreListed (after ks v)
all_listed [] v all = all
all_listed (k ∷ ks) v all = all_listed ks (changed k v) (one_listed k v all)

pub always_listed : (h : History) → AreListed (contents h)
unfolding contents
always_listed [] = record { links = λ p. tt; watches = λ p. tt; tables = λ p. tt }
always_listed (e ∷ h) = all_listed (changes_by (contents h) e.step e.deed) (contents h) (always_listed h)
