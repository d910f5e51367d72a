-- Lists without the item at a place, and the first place that passes a test.
use Rattle.std.proofs.Common.{◌≡◌, ◌+◌, ◌<◌, ℕ, Bool, true, false, List, [], ◌∷◌, Option, Some, None, refl, sym, ap, ◌∙◌, subst, arith, true≢false, if◌then◌else◌, length, map, option_map, option_and_then, slice_get}
use Prim.Native.Nat.{suc, zero}
use Rattle.std.specs.List.{remove}
use Rattle.std.specs.Ordering.{is_eq}
use Rattle.std.specs.declared.cmp.Ordering.{Ordering}
use Rattle.std.specs.declared.cmp.Ordering.TheVariants.{Less, Equal, Greater}
use Rattle.std.specs.Cmp.{Equal-is}
use Rattle.term_core.specs.Meaning.{Meaning}
use Rattle.term_core.specs.Order.{order_of_terms}
use Rattle.term_core.specs.inside.OrderLaws as orders
use Rattle.proc_signals.specs.Mailbox.{first_place}
use Rattle.world_model.specs.Changes.{without_first}
use Rattle.world_model.specs.Names.{same_term}
use Rattle.world_model.specs.Mailboxes.{selected_of}

pub map_remove : {A B : Type 0} (f : A → B) (xs : List A) (n : ℕ) → map f (remove xs n) ≡ remove (map f xs) n
map_remove f [] zero = refl
map_remove f [] (suc n) = refl
map_remove f (x ∷ xs) zero = refl
map_remove f (x ∷ xs) (suc n) = ap (λ ys. f x ∷ ys) (map_remove f xs n)

-- a number under one more
abbrev Later : Option ℕ → Option ℕ
Later o = option_map (λ n. n + 1) o

some_same : {A : Type 0} (x y : A) → Some x ≡ Some y → x ≡ y
some_same x y e = cc

more : (k : ℕ) → suc k ≡ k + 1
more k = omega arith

-- what is shown of the first place is shown by cases: it is the head, or a place after it
first_if : (P : ℕ → Type 0) (b : Bool) (o : Option ℕ) (n : ℕ) → (if b then Some 0 else Later o) ≡ Some n → (b ≡ true → P 0) → (b ≡ false → (k : ℕ) → o ≡ Some k → P (suc k)) → P n
first_if P true o n is here behind = subst P (some_same 0 n is) (here refl)
first_if P false None n is here behind = absurd cc
first_if P false (Some k) n is here behind = subst P (some_same (suc k) n (ap Some (more k) ∙ is)) (behind refl k refl)

pub place_within : (test : Meaning → Bool) (ms : List Meaning) (n : ℕ) → first_place test ms ≡ Some n → n < length ms
place_within test [] n is = absurd cc
place_within test (m ∷ ms) n is =
    first_if (λ k. k < length (m ∷ ms)) (test m) (first_place test ms) n is (λ b. omega arith) (λ b k behind. let t = place_within test ms k behind in omega arith)

select_if : (b : Bool) (m : Meaning) (o : Option Meaning) (x : Option Meaning) → (b ≡ true → Some m ≡ x) → (b ≡ false → o ≡ x) → (if b then Some m else o) ≡ x
select_if true m o x here behind = here refl
select_if false m o x here behind = behind refl

not_both : {A : Type 0} (b : Bool) → b ≡ true → b ≡ false → A
not_both b is not = absurd (true≢false (sym is ∙ not))

-- the message there is the one that is selected
pub place_selected : (test : Meaning → Bool) (ms : List Meaning) (n : ℕ) → first_place test ms ≡ Some n → slice_get ms n ≡ selected_of test ms
place_selected test [] n is = absurd cc
place_selected test (m ∷ ms) n is =
    first_if (λ k. slice_get (m ∷ ms) k ≡ selected_of test (m ∷ ms)) (test m) (first_place test ms) n is
    (λ b. sym (select_if (test m) m (selected_of test ms) (Some m) (λ t. refl) (λ f. not_both (test m) b f)))
    (λ b k behind. place_selected test ms k behind ∙ sym (select_if (test m) m (selected_of test ms) (selected_of test ms) (λ t. not_both (test m) t b) (λ f. refl)))

none_if : (b : Bool) (o : Option ℕ) → (if b then Some 0 else Later o) ≡ None → (b ≡ false) × (o ≡ None)
none_if true o is = absurd cc
none_if false None is = (refl, refl)
none_if false (Some n) is = absurd cc

pub none_selected : (test : Meaning → Bool) (ms : List Meaning) → first_place test ms ≡ None → selected_of test ms ≡ None
none_selected test [] is = refl
none_selected test (m ∷ ms) is =
    let t = none_if (test m) (first_place test ms) is in
    select_if (test m) m (selected_of test ms) None (λ b. not_both (test m) b t.0) (λ b. none_selected test ms t.1)

-- without the first that passes is without the one at the first place
left_if : (b : Bool) (ms ls : List Meaning) (m : Meaning) (rest : List Meaning) → (b ≡ true → ms ≡ rest) → (b ≡ false → (m ∷ ls) ≡ rest) → (if b then ms else m ∷ ls) ≡ rest
left_if true ms ls m rest here behind = here refl
left_if false ms ls m rest here behind = behind refl

pub place_removed : (test : Meaning → Bool) (ms : List Meaning) (n : ℕ) → first_place test ms ≡ Some n → without_first test ms ≡ remove ms n
place_removed test [] n is = absurd cc
place_removed test (m ∷ ms) n is =
    first_if (λ k. without_first test (m ∷ ms) ≡ remove (m ∷ ms) k) (test m) (first_place test ms) n is
    (λ b. left_if (test m) ms (without_first test ms) m ms (λ t. refl) (λ f. not_both (test m) b f))
    (λ b k behind. left_if (test m) ms (without_first test ms) m (remove (m ∷ ms) (suc k)) (λ t. not_both (test m) t b) (λ f. ap (λ ls. m ∷ ls) (place_removed test ms k behind)))

pub none_removed : (test : Meaning → Bool) (ms : List Meaning) → first_place test ms ≡ None → without_first test ms ≡ ms
none_removed test [] is = refl
none_removed test (m ∷ ms) is =
    let t = none_if (test m) (first_place test ms) is in
    left_if (test m) ms (without_first test ms) m (m ∷ ms) (λ b. not_both (test m) b t.0) (λ b. ap (λ ls. m ∷ ls) (none_removed test ms t.1))

-- the message at the first place passes
pub place_passes : (test : Meaning → Bool) (ms : List Meaning) (n : ℕ) (x : Meaning) → first_place test ms ≡ Some n → slice_get ms n ≡ Some x → test x ≡ true
place_passes test [] n x is at = absurd cc
place_passes test (m ∷ ms) n x is at =
    first_if (λ k. slice_get (m ∷ ms) k ≡ Some x → test x ≡ true) (test m) (first_place test ms) n is
    (λ b e. ap test (sym (some_same m x e)) ∙ b)
    (λ b k behind e. place_passes test ms k x behind e) at

-- two terms are the same as each is itself, and no other
pub term_itself : (m : Meaning) → same_term m m ≡ true
term_itself m = (Equal-is (order_of_terms m m)).1 (itself (order_of_terms m m) (orders.terms_total.antisymm m m))
  where
    itself : (o : Ordering) → o ≡ Rattle.std.specs.Ordering.ordering_reverse o → o ≡ Equal
    itself Less e = cc
    itself Equal e = refl
    itself Greater e = cc

pub terms_same : (a b : Meaning) → same_term a b ≡ true → a ≡ b
terms_same a b e = orders.same_term a b ((Equal-is (order_of_terms a b)).0 e)

apart : (test : Meaning → Bool) (x m : Meaning) (b : Bool) → (b ≡ true → x ≡ m) → test x ≡ true → test m ≡ false → b ≡ false
apart test x m true same passes fails = not_both (test m) (ap test (sym (same refl)) ∙ passes) fails
apart test x m false same passes fails = refl

-- the first that is the same as the message at the first place is that message
pub place_picked : (test : Meaning → Bool) (ms : List Meaning) (n : ℕ) (x : Meaning) → first_place test ms ≡ Some n → slice_get ms n ≡ Some x → without_first (same_term x) ms ≡ remove ms n
place_picked test [] n x is at = absurd cc
place_picked test (m ∷ ms) n x is at =
    first_if (λ k. slice_get (m ∷ ms) k ≡ Some x → without_first (same_term x) (m ∷ ms) ≡ remove (m ∷ ms) k) (test m) (first_place test ms) n is
    (λ b e. left_if (same_term x m) ms (without_first (same_term x) ms) m ms (λ t. refl) (λ f. not_both (same_term x m) (ap (λ y. same_term y m) (sym (some_same m x e)) ∙ term_itself m) f))
    (λ b k behind e. left_if (same_term x m) ms (without_first (same_term x) ms) m (remove (m ∷ ms) (suc k))
    (λ t. not_both (same_term x m) t (apart test x m (same_term x m) (terms_same x m) (place_passes test ms k x behind e) b))
    (λ f. ap (λ ls. m ∷ ls) (place_picked test ms k x behind e))) at

-- what is found, in the forms of the contracts
pub found_selected : (test : Meaning → Bool) (ms : List Meaning) (found : Option ℕ) → found ≡ first_place test ms → option_and_then (slice_get ms) found ≡ selected_of test ms
found_selected test ms None is = sym (none_selected test ms (sym is))
found_selected test ms (Some n) is = place_selected test ms n (sym is)

pub found_within : (test : Meaning → Bool) (ms : List Meaning) (n : ℕ) → Some n ≡ first_place test ms → n < length ms
found_within test ms n is = place_within test ms n (sym is)
