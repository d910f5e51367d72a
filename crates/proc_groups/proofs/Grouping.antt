-- What a map of sets has at each process after a change at one.
use Rattle.std.proofs.Common.{◌≡◌, ℕ, Bool, true, false, cond, List, [], ◌∷◌, length, arith, not, ◌||◌, ◌⊎◌, inl, inr, true≢false, Option, Some, Ok, Err, Result, IsSome, OnErr, bytes_eq, if◌then◌else◌, refl, sym, ap, subst, ◌∙◌}
use Rattle.std.specs.BTreeMap.{BTreeMap, get, is_at, WritesThrough}
use Rattle.std.specs.BTreeSet.{BTreeSet, insert_key}
use Rattle.std.specs.Set.{remove_key}
use Rattle.std.specs.Ordering.{match_ordering}
use Rattle.std.specs.declared.cmp.Ordering.{Ordering}
use Rattle.std.specs.declared.cmp.Ordering.TheVariants.{Less, Equal, Greater}
use Rattle.world_model.specs.Changes.{set_before, set_in_order, without_first}
use Rattle.std.proofs.lemmas.Map.Text.{is_eq-slice_cmp}
use Rattle.std.proofs.lemmas.Slice.Eq.{bytes_eq-Decides}
use Rattle.term_core.specs.Order.{order_of_lists}
use Rattle.proc_groups.specs.Groups.{members_of, members_in, IsAdded}
use Rattle.proc_groups.specs.declared.groups.Groups.{Groups}
use Rattle.std.specs.List.{list_any, AllZip}
use Rattle.std.specs.Ordering.{is_eq}
use Rattle.std.specs.Bool.{OnFalse}
use Rattle.std.specs.Map.{lookup}
use Rattle.std.proofs.lemmas.List.Elements.{same_from_all_zip}

-- a map in which one process has another set, or none
abbrev pub HasAt : {K : Type 0} → BTreeMap (List ℕ) (BTreeSet K) → List ℕ → Option (BTreeSet K) → BTreeMap (List ℕ) (BTreeSet K) → Type 0
HasAt m p w n = (q : List ℕ) → get order_of_lists n q ≡ cond (is_at (order_of_lists p) q) w (get order_of_lists m q)

pub written : {K : Type 0} (m n : BTreeMap (List ℕ) (BTreeSet K)) (p : List ℕ) (s : BTreeSet K) (before : BTreeSet K) → Some before ≡ get order_of_lists m p → WritesThrough order_of_lists (order_of_lists p) m s n → HasAt m p (Some s) n
written m n p s before there writes = (writes.3 (subst IsSome there refl)).0

pub on_err : {T E P : Type 0} (r : Result T E) → P → OnErr r P
on_err (Ok x) p = tt
on_err (Err e) p = p

twice : {A : Type 0} (b : Bool) (x y z : A) → cond b x (cond b y z) ≡ cond b x z
twice true x y z = refl
twice false x y z = refl

pub has_then : {K : Type 0} (m l n : BTreeMap (List ℕ) (BTreeSet K)) (p : List ℕ) (u w : Option (BTreeSet K)) → HasAt m p u l → HasAt l p w n → HasAt m p w n
has_then m l n p u w first next q = next q ∙ ap (cond (is_at (order_of_lists p) q) w) (first q) ∙ twice (is_at (order_of_lists p) q) w u (get order_of_lists m q)

pub members_at : {K : Type 0} (m n : BTreeMap (List ℕ) (BTreeSet K)) (p : List ℕ) (w : Option (BTreeSet K)) (f : List K → List K)
    → members_of w ≡ f (members_of (get order_of_lists m p)) → HasAt m p w n
    → (q : List ℕ) → members_of (get order_of_lists n q) ≡ (if bytes_eq p q then f (members_of (get order_of_lists m q)) else members_of (get order_of_lists m q))
members_at m n p w f is has q =
    elim (bytes_eq p q) as (λ b. bytes_eq p q ≡ b → members_of (get order_of_lists n q) ≡ (if b then f (members_of (get order_of_lists m q)) else members_of (get order_of_lists m q))) [
      | true ↦ λ e. ap members_of (has q ∙ ap (λ b. cond b w (get order_of_lists m q)) (is_eq-slice_cmp p q ∙ e)) ∙ is ∙ ap (λ r. f (members_of (get order_of_lists m r))) ((bytes_eq-Decides p q).0 e)
      | false ↦ λ e. ap members_of (has q ∙ ap (λ b. cond b w (get order_of_lists m q)) (is_eq-slice_cmp p q ∙ e))
    ] refl

pub same_either : {A : Type 0} (b : Bool) (x : A) → (if b then x else x) ≡ x
same_either true x = refl
same_either false x = refl

pub members_stay : {K : Type 0} (m n : BTreeMap (List ℕ) (BTreeSet K)) (p : List ℕ) (w : Option (BTreeSet K))
    → members_of w ≡ members_of (get order_of_lists m p) → HasAt m p w n
    → (q : List ℕ) → members_of (get order_of_lists n q) ≡ members_of (get order_of_lists m q)
members_stay m n p w is has q = members_at m n p w (λ xs. xs) is has q ∙ same_either (bytes_eq p q) _

pub was_err : {T E P : Type 0} (r : Result T E) (e : E) → r ≡ Err e → OnErr r P → P
was_err {P = P} r e was p = subst (λ r. OnErr r P) was p

pub no_items : {A : Type 0} (xs : List A) → length xs ≡ 0 → xs ≡ []
no_items [] e = refl
no_items (x ∷ xs) e = absurd (omega arith)

set_before-is : {A : Type 0} (o : Ordering) (x y : A) (ys rest : List A) → match_ordering o (x ∷ y ∷ ys) (y ∷ ys) (y ∷ rest) ≡ set_before o x y ys rest
set_before-is Less x y ys rest = refl
set_before-is Equal x y ys rest = refl
set_before-is Greater x y ys rest = refl

pub insert_key-is : {A : Type 0} (order : A → A → Ordering) (xs : List A) (x : A) → insert_key order xs x ≡ set_in_order order x xs
insert_key-is order [] x = refl
insert_key-is order (y ∷ ys) x = set_before-is (order x y) x y ys (insert_key order ys x) ∙ ap (set_before (order x y) x y ys) (insert_key-is order ys x)

pub remove_key-is : {A : Type 0} (test : A → Bool) (xs : List A) → remove_key test xs ≡ without_first test xs
remove_key-is test [] = refl
remove_key-is test (y ∷ ys) = ap (λ zs. cond (test y) ys (y ∷ zs)) (remove_key-is test ys)

pub on_false : {P : Type 0} (b : Bool) → b ≡ false → OnFalse b P → P
on_false true e p = absurd (true≢false e)
on_false false e p = p

-- a value that is lent is what it was, or a clone of it
pub same_members : {K : Type 0} (old now : Groups K) → (now ≡ old) ⊎ ((p : List ℕ) → members_in now p ≡ members_in old p) → (p : List ℕ) → members_in now p ≡ members_in old p
same_members old now (inl e) p = ap (λ g. members_in g p) e
same_members old now (inr is) p = is p

-- what was not there and came goes again
or_none : (b c : Bool) → (b || c) ≡ false → (b ≡ false) × (c ≡ false)
or_none true c e = absurd (true≢false e)
or_none false c e = (refl, e)

goes : {A : Type 0} (o : Ordering) (test : A → Bool) (x y : A) (ys rest : List A) → test x ≡ true → test y ≡ is_eq o → is_eq o ≡ false → without_first test rest ≡ ys → without_first test (set_before o x y ys rest) ≡ y ∷ ys
goes Less test x y ys rest here apart none back = ap (λ b. if b then y ∷ ys else x ∷ without_first test (y ∷ ys)) here
goes Equal test x y ys rest here apart none back = absurd (true≢false none)
goes Greater test x y ys rest here apart none back = ap (λ b. if b then rest else y ∷ without_first test rest) apart ∙ ap (λ zs. y ∷ zs) back

pub goes_again : {A : Type 0} (order : A → A → Ordering) (x : A) (xs : List A) → order x x ≡ Equal → list_any (is_at (order x)) xs ≡ false → without_first (is_at (order x)) (set_in_order order x xs) ≡ xs
goes_again order x [] self none = ap (λ o. if is_eq o then [] else x ∷ []) self
goes_again order x (y ∷ ys) self none =
    goes (order x y) (is_at (order x)) x y ys (set_in_order order x ys) (ap is_eq self) refl (or_none _ _ none).0 (goes_again order x ys self (or_none _ _ none).1)

not_not : (b c : Bool) → b ≡ not c → b ≡ true → c ≡ false
not_not b true e t = absurd (true≢false (sym t ∙ e))
not_not b false e t = refl

pub taken_back : {K : Type 0} (order : K → K → Ordering) (p : List ℕ) (x : K) (is_new : Bool) (f g now : List ℕ → List K) → order x x ≡ Equal → is_new ≡ true → IsAdded order p x is_new f g
    → ((q : List ℕ) → now q ≡ (if bytes_eq p q then without_first (is_at (order x)) (g q) else g q)) → (q : List ℕ) → now q ≡ f q
taken_back order p x is_new f g now self new added is q =
    is q ∙ elim (bytes_eq p q) as (λ b. bytes_eq p q ≡ b → (if b then without_first (is_at (order x)) (g q) else g q) ≡ f q) [
      | true ↦ λ e. ap (without_first (is_at (order x))) (added.adds q ∙ ap (λ b. if b then set_in_order order x (f q) else f q) e)
          ∙ goes_again order x (f q) self (ap (λ r. list_any (is_at (order x)) (f r)) (sym ((bytes_eq-Decides p q).0 e)) ∙ not_not is_new _ added.new_is new)
      | false ↦ λ e. added.adds q ∙ ap (λ b. if b then set_in_order order x (f q) else f q) e
    ] refl

in_both : {K : Type 0} (b : Bool) (s t : BTreeSet K) (o u : Option (BTreeSet K)) → s.keys ≡ t.keys → members_of o ≡ members_of u → members_of (cond b (Some s) o) ≡ members_of (cond b (Some t) u)
in_both true s t o u here there = here
in_both false s t o u here there = there

-- clones of sets that are the same at each process
pub cloned : {K : Type 0} (C : K → K → Type 0) → ((a b : K) → C a b → b ≡ a) → (es fs : List (List ℕ × BTreeSet K)) → AllZip (λ e f. (f.0 ≡ e.0) × AllZip C e.1.keys f.1.keys) es fs
    → (test : List ℕ → Bool) → members_of (lookup test fs) ≡ members_of (lookup test es)
cloned C same [] [] all test = refl
cloned C same [] (f ∷ fs) all test = absurd all
cloned C same (e ∷ es) [] all test = absurd all
cloned C same (e ∷ es) (f ∷ fs) all test =
    ap (λ k. members_of (cond (test k) (Some f.1) (lookup test fs))) all.0.0
    ∙ in_both (test e.0) f.1 e.1 _ _ (same_from_all_zip C e.1.keys f.1.keys all.0.1 same) (cloned C same es fs all.1 test)
