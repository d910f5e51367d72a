-- Lists in order, each item once: what is there when one is put in, and when one goes.
use Rattle.std.proofs.Common.{◌≡◌, inl, inr, Bool, true, false, ◌&&◌, ◌||◌, List, [], ◌∷◌, refl, sym, ap, ◌∙◌, if◌then◌else◌, true≢false}
use Rattle.std.specs.Cmp.{IsTotalOrder}
use Rattle.std.specs.List.{list_any}
use Rattle.std.specs.Ordering.{ordering_reverse}
use Rattle.std.specs.Prelude.{not}
use Rattle.std.specs.declared.cmp.Ordering.{Ordering}
use Rattle.std.specs.declared.cmp.Ordering.TheVariants.{Less, Equal, Greater}
use Rattle.world_model.specs.Changes.{set_in_order, set_before, without_first}
use Rattle.world_model.proofs.Commuting.{either_is}

abbrev pub ComesFirst : {A : Type 0} → (A → A → Ordering) → A → List A → Type 0
ComesFirst order x [] = Unit {0}
ComesFirst order x (y ∷ ys) = (order x y ≡ Less) × ComesFirst order x ys

abbrev pub InOrder : {A : Type 0} → (A → A → Ordering) → List A → Type 0
InOrder order [] = Unit {0}
InOrder order (x ∷ xs) = ComesFirst order x xs × InOrder order xs

is_less : Ordering → Bool
is_less Less = true
is_less r = false

turned_by : (r q : Ordering) → r ≡ ordering_reverse q → r ≡ Greater → q ≡ Less
unfolding is_less
turned_by r Less is now = refl
turned_by Less Equal is now = absurd cc
turned_by Equal Equal is now = absurd cc
turned_by Greater Equal is now = absurd cc
turned_by Less Greater is now = absurd cc
turned_by Equal Greater is now = absurd cc
turned_by Greater Greater is now = absurd cc

not_less : (r : Ordering) → r ≡ ordering_reverse r → r ≡ Less → ⊥
not_less Less is now = absurd cc
not_less Equal is now = absurd cc
not_less Greater is now = absurd cc

module _ {A : Type 0} (order : A → A → Ordering) (total : IsTotalOrder order) where
  before_all : (s t : A) (xs : List A) → order s t ≡ Less → ComesFirst order t xs → ComesFirst order s xs
  before_all s t [] first rest = tt
  before_all s t (x ∷ xs) first rest = (total.trans s t x first rest.0, before_all s t xs first rest.1)

  comes_by : (s x y : A) (ys : List A) (r : Ordering) → order s x ≡ Less → ComesFirst order s (y ∷ ys) → ComesFirst order s (set_in_order order x ys) → ComesFirst order s (set_before r x y ys (set_in_order order x ys))
  comes_by s x y ys Less first there rest = (first, there)
  comes_by s x y ys Equal first there rest = there
  comes_by s x y ys Greater first there rest = (there.0, rest)

  set_comes : (s x : A) (ys : List A) → order s x ≡ Less → ComesFirst order s ys → ComesFirst order s (set_in_order order x ys)
  set_comes s x [] first rest = (first, tt)
  set_comes s x (y ∷ ys) first rest = comes_by s x y ys (order x y) first rest (set_comes s x ys first rest.1)

  sorted_by : (x y : A) (ys : List A) (r : Ordering) → order x y ≡ r → InOrder order (y ∷ ys) → InOrder order (set_in_order order x ys) → InOrder order (set_before r x y ys (set_in_order order x ys))
  sorted_by x y ys Less is sorted rest = ((is, before_all x y ys is sorted.0), sorted)
  sorted_by x y ys Equal is sorted rest = sorted
  sorted_by x y ys Greater is sorted rest = (set_comes y x ys (turned_by (order x y) (order y x) (total.antisymm x y) is) sorted.0, rest)

  -- what is put in keeps the order
  pub set_sorted : (x : A) (ys : List A) → InOrder order ys → InOrder order (set_in_order order x ys)
  set_sorted x [] sorted = (tt, tt)
  set_sorted x (y ∷ ys) sorted = sorted_by x y ys (order x y) refl sorted (set_sorted x ys sorted.1)

  first_by : (s x : A) (xs ys : List A) (b : Bool) → order s x ≡ Less → ComesFirst order s xs → ComesFirst order s ys → ComesFirst order s (if b then xs else x ∷ ys)
  first_by s x xs ys true first all rest = all
  first_by s x xs ys false first all rest = (first, rest)

  first_without : (test : A → Bool) (s : A) (xs : List A) → ComesFirst order s xs → ComesFirst order s (without_first test xs)
  first_without test s [] first = tt
  first_without test s (x ∷ xs) first = first_by s x xs (without_first test xs) (test x) first.0 first.1 (first_without test s xs first.1)

  left_by : (x : A) (xs ys : List A) (b : Bool) → InOrder order xs → ComesFirst order x ys → InOrder order ys → InOrder order (if b then xs else x ∷ ys)
  left_by x xs ys true all first rest = all
  left_by x xs ys false all first rest = (first, rest)

  -- and so does what goes
  pub without_sorted : (test : A → Bool) (xs : List A) → InOrder order xs → InOrder order (without_first test xs)
  without_sorted test [] sorted = tt
  without_sorted test (x ∷ xs) sorted = left_by x xs (without_first test xs) (test x) sorted.1 (first_without test x xs sorted.0) (without_sorted test xs sorted.1)

-- ---- what is there

module _ {A : Type 0} (order : A → A → Ordering) (total : IsTotalOrder order) (same : A → A → Bool) (equal : (x y : A) → order x y ≡ Equal → x ≡ y) (found : (x y : A) → same x y ≡ true → x ≡ y) (itself : (x : A) → same x x ≡ true) where
  pub turned : (x y : A) (b : Bool) → same x y ≡ b → same y x ≡ b
  turned x y true is = ap (same y) (found x y is) ∙ itself y
  turned x y false is =
      elim (either_is (same y x)) [
        | inl it ↦ absurd (true≢false (sym (ap (same x) (found y x it) ∙ itself x) ∙ is))
        | inr other ↦ other
      ]

  or_true : (a b : Bool) → b ≡ true → (a || b) ≡ true
  or_true true b is = refl
  or_true false b is = is

  here_by : (x y : A) (ys : List A) (r : Ordering) → order x y ≡ r → list_any (same x) (set_in_order order x ys) ≡ true → list_any (same x) (set_before r x y ys (set_in_order order x ys)) ≡ true
  here_by x y ys Less is rest = ap (λ b. b || list_any (same x) (y ∷ ys)) (itself x)
  here_by x y ys Equal is rest = ap (λ b. b || list_any (same x) ys) (ap (same x) (sym (equal x y is)) ∙ itself x)
  here_by x y ys Greater is rest = or_true (same x y) _ rest

  is_here : (x : A) (ys : List A) → list_any (same x) (set_in_order order x ys) ≡ true
  is_here x [] = ap (λ b. b || false) (itself x)
  is_here x (y ∷ ys) = here_by x y ys (order x y) refl (is_here x ys)

  other_by : (x y z : A) (ys : List A) (r : Ordering) → same z x ≡ false → list_any (same z) (set_in_order order x ys) ≡ list_any (same z) ys → list_any (same z) (set_before r x y ys (set_in_order order x ys)) ≡ list_any (same z) (y ∷ ys)
  other_by x y z ys Less other rest = ap (λ b. b || list_any (same z) (y ∷ ys)) other
  other_by x y z ys Equal other rest = refl
  other_by x y z ys Greater other rest = ap (λ b. same z y || b) rest

  others_stay : (x z : A) (ys : List A) → same z x ≡ false → list_any (same z) (set_in_order order x ys) ≡ list_any (same z) ys
  others_stay x z [] other = ap (λ b. b || false) other
  others_stay x z (y ∷ ys) other = other_by x y z ys (order x y) other (others_stay x z ys other)

  -- what is put in is there, and what was there
  pub put_in_order : (x z : A) (ys : List A) → list_any (same z) (set_in_order order x ys) ≡ (same x z || list_any (same z) ys)
  put_in_order x z ys =
      elim (either_is (same x z)) [
        | inl it ↦ ap (λ y. list_any (same y) (set_in_order order x ys)) (sym (found x z it)) ∙ is_here x ys ∙ sym (ap (λ b. b || list_any (same z) ys) it)
        | inr other ↦ others_stay x z ys (turned x z false other) ∙ sym (ap (λ b. b || list_any (same z) ys) other)
      ]

  -- one that comes before all others is none of them
  none_after : (x : A) (ys : List A) → ComesFirst order x ys → list_any (same x) ys ≡ false
  none_after x [] first = refl
  none_after x (y ∷ ys) first =
      elim (either_is (same x y)) [
        | inl it ↦ absurd (not_less (order x x) (total.antisymm x x) (ap (order x) (found x y it) ∙ first.0))
        | inr other ↦ ap (λ b. b || list_any (same x) ys) other ∙ none_after x ys first.1
      ]

  is_gone : (x : A) (ys : List A) → InOrder order ys → list_any (same x) (without_first (same x) ys) ≡ false
  is_gone x [] sorted = refl
  is_gone x (y ∷ ys) sorted =
      elim (either_is (same x y)) [
        | inl it ↦ ap (λ b. list_any (same x) (if b then ys else y ∷ without_first (same x) ys)) it ∙ ap (λ z. list_any (same z) ys) (found x y it) ∙ none_after y ys sorted.0
        | inr other ↦ ap (λ b. list_any (same x) (if b then ys else y ∷ without_first (same x) ys)) other ∙ ap (λ b. b || list_any (same x) (without_first (same x) ys)) other ∙ is_gone x ys sorted.1
      ]

  others_left : (x z : A) (ys : List A) → same z x ≡ false → list_any (same z) (without_first (same x) ys) ≡ list_any (same z) ys
  others_left x z [] other = refl
  others_left x z (y ∷ ys) other =
      elim (either_is (same x y)) [
        | inl it ↦ ap (λ b. list_any (same z) (if b then ys else y ∷ without_first (same x) ys)) it ∙ sym (ap (λ b. b || list_any (same z) ys) (ap (same z) (sym (found x y it)) ∙ other))
        | inr apart ↦ ap (λ b. list_any (same z) (if b then ys else y ∷ without_first (same x) ys)) apart ∙ ap (λ b. same z y || b) (others_left x z ys other)
      ]

  -- what goes is gone, and the others are there
  pub gone_in_order : (x z : A) (ys : List A) → InOrder order ys → list_any (same z) (without_first (same x) ys) ≡ (not (same x z) && list_any (same z) ys)
  gone_in_order x z ys sorted =
      elim (either_is (same x z)) [
        | inl it ↦ ap (λ y. list_any (same y) (without_first (same x) ys)) (sym (found x z it)) ∙ is_gone x ys sorted ∙ sym (ap (λ b. not b && list_any (same z) ys) it)
        | inr other ↦ others_left x z ys (turned x z false other) ∙ sym (ap (λ b. not b && list_any (same z) ys) other)
      ]
