-- Lists of entries in the order of their processes: what is found by halves, and that a write keeps the order.
use Rattle.std.proofs.Common.{◌≡◌, ◌≢◌, ◌<◌, ◌≤◌, ◌∷◌, [], ℕ, zero, suc, Bool, true, false, List, Some, None, inl, inr, refl, sym, ap, subst, ◌∙◌, arith, length, get_or, insert, map, position, bytes_eq, if◌then◌else◌, true≢false}
use Rattle.std.proofs.Math.ListN.{set}
use Rattle.std.proofs.lemmas.Bool.{cases_lt}
use Rattle.std.proofs.lemmas.Cmp.{nat_list_cmp_total, tied_itself}
use Rattle.std.proofs.lemmas.Map.{NonePasses}
use Rattle.std.proofs.lemmas.Map.Keys.{IsDistinct-from_sorted}
use Rattle.std.proofs.lemmas.Map.Text.{is_eq-slice_cmp}
use Rattle.std.proofs.lemmas.Slice.Eq.{bytes_eq-Decides}
use Rattle.std.specs.List.{AllByRecursion, IsDistinct, remove}
use Rattle.std.specs.List.Sorted.{IsStrictlySortedBy}
use Rattle.std.specs.Map.{keys_of}
use Rattle.std.specs.Ordering.{ordering_reverse}
use Rattle.std.specs.declared.cmp.Ordering.TheVariants.{Less, Equal, Greater}
use Rattle.term_core.specs.Order.{order_of_lists}
use Rattle.term_core.specs.inside.OrderLaws.{same_list}
use Rattle.world_model.specs.Names.{Pid, same_pid}
use Rattle.proc_signals.proofs.Halves.{AreBefore, IsNotBefore, by_place}
use Rattle.proc_machines.proofs.Listing.{first_place, no_place}

abbrev pub AreInOrder : {X : Type 0} → List (Pid × X) → Type 0
AreInOrder es = IsStrictlySortedBy order_of_lists (keys_of es)

-- ---- two processes

-- one that comes before another is not it
never_before : (p q : Pid) → order_of_lists q p ≡ Less → p ≡ q → ⊥
never_before p q less same =
    let tied : order_of_lists q q ≡ Equal = tied_itself nat_list_cmp_total q in
    let itself : order_of_lists q q ≡ Less = ap (order_of_lists q) (sym same) ∙ less in
    absurd cc

-- two that are not the same
apart : (p q : Pid) → (p ≡ q → ⊥) → same_pid p q ≡ false
apart p q other = elim (bytes_eq p q) as (λ b. bytes_eq p q ≡ b → b ≡ false) [
  | true ↦ λ e. absurd (other ((bytes_eq-Decides p q).0 e))
  | false ↦ λ e. refl
] refl

comes_after : (p q : Pid) → order_of_lists q p ≢ Less → same_pid p q ≡ false → order_of_lists p q ≡ Less
comes_after p q not other = elim (order_of_lists q p) as (λ o. order_of_lists q p ≡ o → order_of_lists p q ≡ Less) [
  | Less ↦ λ e. absurd (not e)
  | Equal ↦ λ e. absurd (true≢false (sym ((bytes_eq-Decides p q).1 (sym (same_list q p e))) ∙ other))
  | Greater ↦ λ e. nat_list_cmp_total.antisymm p q ∙ ap ordering_reverse e
] refl

all_above : (p q : Pid) (ks : List Pid) → order_of_lists p q ≡ Less → AllByRecursion (λ k. order_of_lists q k ≡ Less) ks → AllByRecursion (λ k. order_of_lists p k ≡ Less) ks
all_above p q [] less all = tt
all_above p q (k ∷ ks) less all = (nat_list_cmp_total.trans p q k less all.0, all_above p q ks less all.1)

-- ---- what is found by halves

module _ {X : Type 0} where
  module _ (p : Pid) (es : List (Pid × X)) (n : ℕ) where
    pub found : AreBefore order_of_lists es p n → n < length es → (x : Pid × X) → same_pid p (get_or es n x).0 ≡ true → Some n ≡ position (λ e. same_pid p e.0) es
    found before within x here =
        first_place (λ e. same_pid p e.0) es n x within (λ k less. apart p (get_or es k x).0 (never_before p (get_or es k x).0 (before k x (omega arith) less))) here

    -- none of those after the place is the process
    later_apart : AreInOrder es → IsNotBefore order_of_lists es p n → (k : ℕ) (d : Pid × X) → n < k → k < length es → same_pid p (get_or es k d).0 ≡ false
    later_apart sorted behind k d less within =
        apart p (get_or es k d).0 (λ same. behind (omega arith) d (ap (order_of_lists (get_or es n d).0) same ∙ by_place order_of_lists es sorted n k d less within))

    pub missing : AreInOrder es → AreBefore order_of_lists es p n → IsNotBefore order_of_lists es p n → (n < length es → (d : Pid × X) → same_pid p (get_or es n d).0 ≡ false) → None ≡ position (λ e. same_pid p e.0) es
    missing sorted before behind other = no_place (λ e. same_pid p e.0) es (length es) (omega arith) each
      where
        each : (d : Pid × X) (k : ℕ) → k < length es → same_pid p (get_or es k d).0 ≡ false
        each d k within = elim (cases_lt k n) [
          | inl less ↦ apart p (get_or es k d).0 (never_before p (get_or es k d).0 (before k d (omega arith) less))
          | inr from ↦ elim (cases_lt n k) [
            | inl less ↦ later_apart sorted behind k d less within
            | inr upto ↦
                let same : n ≡ k = omega arith in
                subst (λ j. same_pid p (get_or es j d).0 ≡ false) same (other (omega arith) d)
          ]
        ]

  -- ---- the order is kept

  pub none_in_order : (es : List (Pid × X)) → es ≡ [] → AreInOrder es
  unfolding IsStrictlySortedBy
  none_in_order [] none = tt
  none_in_order (e ∷ es) none = absurd cc

  pub keys_written : (es : List (Pid × X)) (n : ℕ) (any : Pid × X) (w : X) → keys_of (set es n ((get_or es n any).0, w)) ≡ keys_of es
  keys_written [] zero any w = refl
  keys_written [] (suc n) any w = refl
  keys_written (e ∷ es) zero any w = refl
  keys_written (e ∷ es) (suc n) any w = ap (λ ks. e.0 ∷ ks) (keys_written es n any w)

  all_inserted : (P : Pid → Type 0) (es : List (Pid × X)) (n : ℕ) (x : Pid × X) → n ≤ length es → P x.0 → AllByRecursion P (keys_of es) → AllByRecursion P (keys_of (insert es n x))
  all_inserted P es zero x within one all = (one, all)
  all_inserted P [] (suc n) x within one all = absurd (omega arith)
  all_inserted P (e ∷ es) (suc n) x within one all = (all.0, all_inserted P es n x (omega arith) one all.1)

  pub inserted_in_order : (es : List (Pid × X)) (n : ℕ) (x : Pid × X) → n ≤ length es → AreBefore order_of_lists es x.0 n → IsNotBefore order_of_lists es x.0 n → NonePasses (same_pid x.0) es → AreInOrder es → AreInOrder (insert es n x)
  unfolding IsStrictlySortedBy
  inserted_in_order [] zero x within before behind none sorted = (tt, tt)
  inserted_in_order [] (suc n) x within before behind none sorted = absurd (omega arith)
  inserted_in_order (e ∷ es) zero x within before behind none sorted =
      let less : order_of_lists x.0 e.0 ≡ Less = comes_after x.0 e.0 (behind (omega arith) e) none.0 in
      ((less, all_above x.0 e.0 (keys_of es) less sorted.0), sorted)
  inserted_in_order (e ∷ es) (suc n) x within before behind none sorted = (
    all_inserted (λ k. order_of_lists e.0 k ≡ Less) es n x (omega arith) (before 0 e (omega arith) (omega arith)) sorted.0,
    inserted_in_order es n x (omega arith) (λ k d low high. before (suc k) d (omega arith) (omega arith)) (λ h. behind (omega arith)) none.1 sorted.1,
  )

  all_removed : (P : Pid → Type 0) (es : List (Pid × X)) (n : ℕ) → AllByRecursion P (keys_of es) → AllByRecursion P (keys_of (remove es n))
  all_removed P [] zero all = tt
  all_removed P [] (suc n) all = tt
  all_removed P (e ∷ es) zero all = all.1
  all_removed P (e ∷ es) (suc n) all = (all.0, all_removed P es n all.1)

  pub removed_in_order : (es : List (Pid × X)) (n : ℕ) → AreInOrder es → AreInOrder (remove es n)
  unfolding IsStrictlySortedBy
  removed_in_order [] zero sorted = tt
  removed_in_order [] (suc n) sorted = tt
  removed_in_order (e ∷ es) zero sorted = sorted.1
  removed_in_order (e ∷ es) (suc n) sorted = (all_removed (λ k. order_of_lists e.0 k ≡ Less) es n sorted.0, removed_in_order es n sorted.1)

  -- processes in order are each there once
  pub each_once : (es : List (Pid × X)) → AreInOrder es → IsDistinct same_pid (keys_of es)
  each_once es sorted = subst (λ eq. IsDistinct eq (keys_of es)) (λ i x y. is_eq-slice_cmp x y i) (IsDistinct-from_sorted order_of_lists (keys_of es) sorted)

-- a list that was written or stayed as it was
pub either_in_order : {X : Type 0} (written : Bool) (old new now : List (Pid × X)) → AreInOrder old → AreInOrder new → now ≡ (if written then new else old) → AreInOrder now
either_in_order {X} true old new now before after is = subst (λ (es : List (Pid × X)). AreInOrder es) (sym is) after
either_in_order {X} false old new now before after is = subst (λ (es : List (Pid × X)). AreInOrder es) (sym is) before

-- the processes of a list, whatever is shown of their courses
pub keys_shown : {X Y : Type 0} (show : X → Y) (es : List (Pid × X)) → keys_of (map (λ (e : Pid × X). (e.0, show e.1)) es) ≡ keys_of es
keys_shown show [] = refl
keys_shown show (e ∷ es) = ap (λ ks. e.0 ∷ ks) (keys_shown show es)
