-- Lists that grow at their ends: the column of a place, and what stands at a place.
use Rattle.std.proofs.Common.{◌≡◌, ◌∙◌, ◌+◌, ◌<◌, ◌≤◌, ◌++◌, ◌⊎◌, inl, inr, ℕ, zero, suc, cond, Bool, true, false, List, [], ◌∷◌, Option, Some, None, length, map, position, refl, sym, ap, subst, arith}
use Rattle.std.proofs.lemmas.Iterator.Adapters.{position_from-zero}
use Rattle.std.specs.List.{AllByRecursion, position_from, slice_get}

-- ---- a position, counted from a first number

module _ {X : Type 0} (test : X → Bool) where
  step_is : (b : Bool) (i n : ℕ) (o : Option ℕ) → cond b (Some i) o ≡ Some n → ((b ≡ true) × (i ≡ n)) ⊎ ((b ≡ false) × (o ≡ Some n))
  step_is true i n o is = inl (refl, cc)
  step_is false i n o is = inr (refl, is)

  step_none : (b : Bool) (i : ℕ) (o : Option ℕ) → cond b (Some i) o ≡ None → (b ≡ false) × (o ≡ None)
  step_none true i o is = absurd cc
  step_none false i o is = (refl, is)

  -- it stays where the list grows
  still_from : (i n : ℕ) (xs ys : List X) → position_from test i xs ≡ Some n → position_from test i (xs ++ ys) ≡ Some n
  still_from i n [] ys is = absurd cc
  still_from i n (x ∷ xs) ys is = elim (step_is (test x) i n (position_from test (i + 1) xs) is) [
    | inl here ↦ ap (λ b. cond b (Some i) (position_from test (i + 1) (xs ++ ys))) here.0 ∙ ap Some here.1
    | inr there ↦ ap (λ b. cond b (Some i) (position_from test (i + 1) (xs ++ ys))) there.0 ∙ still_from (i + 1) n xs ys there.1
  ]

  -- and is at the end of it else
  past_from : (i n : ℕ) (xs : List X) → position_from test i xs ≡ Some n → i ≤ n
  past_from i n [] is = absurd cc
  past_from i n (x ∷ xs) is = elim (step_is (test x) i n (position_from test (i + 1) xs) is) [
    | inl here ↦ let e : i ≡ n = here.1 in omega arith
    | inr there ↦ let e : i + 1 ≤ n = past_from (i + 1) n xs there.1 in omega arith
  ]

  grown_from : (i n : ℕ) (xs ys : List X) → position_from test i xs ≡ None → position_from test i (xs ++ ys) ≡ Some n → i + length xs ≤ n
  grown_from i n [] ys none is = let e : i ≤ n = past_from i n ys is in omega arith
  grown_from i n (x ∷ xs) ys none is =
      let off = step_none (test x) i (position_from test (i + 1) xs) none in
      let rest : position_from test (i + 1) (xs ++ ys) ≡ Some n = ap (λ b. cond b (Some i) (position_from test (i + 1) (xs ++ ys))) (sym off.0) ∙ is in
      let e : (i + 1) + length xs ≤ n = grown_from (i + 1) n xs ys off.1 rest in
      omega arith

  -- what stands there passes
  passes_from : (i n : ℕ) (xs : List X) → position_from test i xs ≡ Some n → (k : ℕ) × (x : X) × (n ≡ i + k) × (slice_get xs k ≡ Some x) × (test x ≡ true)
  passes_from i n [] is = absurd cc
  passes_from i n (x ∷ xs) is = elim (step_is (test x) i n (position_from test (i + 1) xs) is) [
    | inl here ↦ let e : i ≡ n = here.1 in (0, x, omega arith, refl, here.0)
    | inr there ↦
        let rest = passes_from (i + 1) n xs there.1 in
        let e : n ≡ (i + 1) + rest.0 = rest.2 in
        (suc rest.0, rest.1, omega arith, rest.3, rest.4)
  ]

  from_zero : (xs : List X) → position test xs ≡ position_from test 0 xs
  from_zero xs = position_from-zero test xs

  pub still_at : (n : ℕ) (xs ys : List X) → position test xs ≡ Some n → position test (xs ++ ys) ≡ Some n
  still_at n xs ys is = from_zero (xs ++ ys) ∙ still_from 0 n xs ys (sym (from_zero xs) ∙ is)

  pub grown_at : (n : ℕ) (xs ys : List X) → position test xs ≡ None → position test (xs ++ ys) ≡ Some n → length xs ≤ n
  grown_at n xs ys none is =
      let e : 0 + length xs ≤ n = grown_from 0 n xs ys (sym (from_zero xs) ∙ none) (sym (from_zero (xs ++ ys)) ∙ is) in
      omega arith

  pub passes_at : (n : ℕ) (xs : List X) → position test xs ≡ Some n → (x : X) × (slice_get xs n ≡ Some x) × (test x ≡ true)
  passes_at n xs is =
      let found = passes_from 0 n xs (sym (from_zero xs) ∙ is) in
      let e : found.0 ≡ n = omega (arith, found.2) in
      (found.1, subst (λ k. slice_get xs k ≡ Some found.1) e found.3, found.4)

-- ---- what stands at a place

pub still_got : {X : Type 0} (xs ys : List X) (n : ℕ) → n < length xs → slice_get (xs ++ ys) n ≡ slice_get xs n
still_got [] ys n low = absurd (omega arith)
still_got (x ∷ xs) ys zero low = refl
still_got (x ∷ xs) ys (suc n) low = still_got xs ys n (omega arith)

pub got_last : {X : Type 0} (xs : List X) (y : X) (ys : List X) → slice_get (xs ++ y ∷ ys) (length xs) ≡ Some y
got_last [] y ys = refl
got_last (x ∷ xs) y ys = got_last xs y ys

pub got_still : {X : Type 0} (xs ys : List X) (n : ℕ) (x : X) → slice_get xs n ≡ Some x → slice_get (xs ++ ys) n ≡ Some x
got_still [] ys n x is = absurd cc
got_still (y ∷ xs) ys zero x is = is
got_still (y ∷ xs) ys (suc n) x is = got_still xs ys n x is

pub got_holds : {X : Type 0} (P : X → Type 0) (xs : List X) (n : ℕ) (x : X) → AllByRecursion P xs → slice_get xs n ≡ Some x → P x
got_holds P [] n x all is = absurd cc
got_holds P (y ∷ xs) zero x all is = let same : y ≡ x = cc in subst P same all.0
got_holds P (y ∷ xs) (suc n) x all is = got_holds P xs n x all.1 is

pub weaker_all : {X : Type 0} (P Q : X → Type 0) → ((x : X) → P x → Q x) → (xs : List X) → AllByRecursion P xs → AllByRecursion Q xs
weaker_all P Q weaker [] all = tt
weaker_all P Q weaker (x ∷ xs) all = (weaker x all.0, weaker_all P Q weaker xs all.1)

pub both_all : {X : Type 0} (P Q : X → Type 0) (xs : List X) → AllByRecursion P xs → AllByRecursion Q xs → AllByRecursion (λ x. P x × Q x) xs
both_all P Q [] one other = tt
both_all P Q (x ∷ xs) one other = ((one.0, other.0), both_all P Q xs one.1 other.1)

pub more_all : {X : Type 0} (P : X → Type 0) (xs : List X) (y : X) → AllByRecursion P xs → P y → AllByRecursion P (xs ++ y ∷ [])
more_all P [] y all last = (last, tt)
more_all P (x ∷ xs) y all last = (all.0, more_all P xs y all.1 last)

pub mapped_all : {X Y : Type 0} (f : X → Y) (P : Y → Type 0) (xs : List X) → AllByRecursion P (map f xs) → AllByRecursion (λ x. P (f x)) xs
mapped_all f P [] all = tt
mapped_all f P (x ∷ xs) all = (all.0, mapped_all f P xs all.1)

pub all_append : {X : Type 0} (P : X → Type 0) (xs ys : List X) → AllByRecursion P xs → AllByRecursion P ys → AllByRecursion P (xs ++ ys)
all_append P [] ys one other = other
all_append P (x ∷ xs) ys one other = (one.0, all_append P xs ys one.1 other)

pub last_all : {X : Type 0} (P : X → Type 0) (xs : List X) (y : X) → AllByRecursion P (xs ++ y ∷ []) → AllByRecursion P xs × P y
last_all P [] y all = (tt, all.0)
last_all P (x ∷ xs) y all = let rest = last_all P xs y all.1 in ((all.0, rest.0), rest.1)
