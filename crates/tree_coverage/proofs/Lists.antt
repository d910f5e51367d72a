-- Elements of lists, and tests over them.
use Rattle.std.proofs.Common.{◌≡◌, ◌⊎◌, inl, inr, Bool, true, false, ◌&&◌, ◌||◌, List, [], ◌∷◌, ◌++◌, map, filter, cond, refl, sym, ap, ◌∙◌, true≢false}
use Rattle.std.specs.List.{AllByRecursion, list_all}
use Rattle.tree_sleep_sets.specs.Search.{is_among, is_each}
use Rattle.tree_sleep_sets.specs.Tree as theory
use Rattle.world_model.specs.Names.{IsAmong}

-- ---- tests

pub both_first : (a b : Bool) → (a && b) ≡ true → a ≡ true
both_first true b e = refl
both_first false b e = e

pub both_second : (a b : Bool) → (a && b) ≡ true → b ≡ true
both_second true b e = e
both_second false b e = absurd cc

pub both_true : (a b : Bool) → a ≡ true → b ≡ true → (a && b) ≡ true
both_true true b p q = q
both_true false b p q = absurd cc

-- ---- elements

-- an element in the words of the theory, and back
pub to_theory : {X : Type 0} (xs : List X) (x : X) → IsAmong x xs → theory.Includes xs x
to_theory [] x h = absurd h
to_theory (y ∷ ys) x (inl p) = inl p
to_theory (y ∷ ys) x (inr q) = inr (to_theory ys x q)

pub from_theory : {X : Type 0} (xs : List X) (x : X) → theory.Includes xs x → IsAmong x xs
from_theory [] x h = absurd h
from_theory (y ∷ ys) x (inl p) = inl p
from_theory (y ∷ ys) x (inr q) = inr (from_theory ys x q)

pub among_left : {X : Type 0} (xs ys : List X) (x : X) → IsAmong x xs → IsAmong x (xs ++ ys)
among_left [] ys x h = absurd h
among_left (z ∷ xs) ys x (inl p) = inl p
among_left (z ∷ xs) ys x (inr q) = inr (among_left xs ys x q)

pub among_right : {X : Type 0} (xs ys : List X) (x : X) → IsAmong x ys → IsAmong x (xs ++ ys)
among_right [] ys x h = h
among_right (z ∷ xs) ys x h = inr (among_right xs ys x h)

pub among_append : {X : Type 0} (xs ys : List X) (x : X) → IsAmong x (xs ++ ys) → IsAmong x xs ⊎ IsAmong x ys
among_append [] ys x h = inr h
among_append (z ∷ xs) ys x (inl p) = inl (inl p)
among_append (z ∷ xs) ys x (inr q) = elim (among_append xs ys x q) [ inl l ↦ inl (inr l) | inr r ↦ inr r ]

pub among_map : {X Y : Type 0} (f : X → Y) (xs : List X) (x : X) → IsAmong x xs → IsAmong (f x) (map f xs)
among_map f [] x h = absurd h
among_map f (y ∷ ys) x (inl p) = inl (ap f p)
among_map f (y ∷ ys) x (inr q) = inr (among_map f ys x q)

pub all_among : {X : Type 0} (P : X → Type 0) (xs : List X) → ((x : X) → IsAmong x xs → P x) → AllByRecursion P xs
all_among P [] each = tt
all_among P (x ∷ xs) each = (each x (inl refl), all_among P xs (λ y there. each y (inr there)))

-- where an element of a mapped list comes from
pub record Source {X Y : Type 0} (f : X → Y) (xs : List X) (y : Y) : Type 0 where
  pub from : X
  pub is_among : IsAmong from xs
  pub is : f from ≡ y

pub source : {X Y : Type 0} (f : X → Y) (xs : List X) (y : Y) → IsAmong y (map f xs) → Source f xs y
source f [] y h = absurd h
source f (x ∷ xs) y (inl p) = record { from = x; is_among = inl refl; is = p }
source f (x ∷ xs) y (inr q) =
    let s : Source f xs y = source f xs y q in
    record { from = s.from; is_among = inr s.is_among; is = s.is }

-- what is among the kept elements passes the test, and the other way round
pub kept_passes : {X : Type 0} (test : X → Bool) (xs : List X) (x : X) → IsAmong x (filter test xs) → (test x ≡ true) × IsAmong x xs
kept_passes test [] x h = absurd h
kept_passes test (y ∷ ys) x h = go (test y) refl (kept_passes test ys x) h
  where
    go : (b : Bool) → test y ≡ b → (IsAmong x (filter test ys) → (test x ≡ true) × IsAmong x ys) → IsAmong x (cond b (y ∷ filter test ys) (filter test ys)) → (test x ≡ true) × IsAmong x (y ∷ ys)
    go true e more (inl p) = (ap test (sym p) ∙ e, inl p)
    go true e more (inr q) = ((more q).0, inr (more q).1)
    go false e more q = ((more q).0, inr (more q).1)

pub passes_kept : {X : Type 0} (test : X → Bool) (xs : List X) (x : X) → test x ≡ true → IsAmong x xs → IsAmong x (filter test xs)
passes_kept test [] x e h = absurd h
passes_kept test (y ∷ ys) x e h = go (test y) refl h (passes_kept test ys x e)
  where
    go : (b : Bool) → test y ≡ b → IsAmong x (y ∷ ys) → (IsAmong x ys → IsAmong x (filter test ys)) → IsAmong x (cond b (y ∷ filter test ys) (filter test ys))
    go true q (inl p) more = inl p
    go true q (inr k) more = inr (more k)
    go false q (inl p) more = absurd (true≢false (sym e ∙ ap test (sym p) ∙ q))
    go false q (inr k) more = more k

-- ---- tests of each element, and of one

pub each_is : {X : Type 0} (test : X → Bool) (xs : List X) → is_each test xs ≡ list_all test xs
each_is test [] = refl
each_is test (x ∷ xs) = ap (λ b. test x && b) (each_is test xs)

pub all_true : {X : Type 0} (test : X → Bool) (xs : List X) (x : X) → list_all test xs ≡ true → IsAmong x xs → test x ≡ true
all_true test [] x e h = absurd h
all_true test (y ∷ ys) x e (inl p) = ap test (sym p) ∙ both_first _ _ e
all_true test (y ∷ ys) x e (inr q) = all_true test ys x (both_second _ _ e) q

pub true_all : {X : Type 0} (test : X → Bool) (xs : List X) → ((x : X) → IsAmong x xs → test x ≡ true) → list_all test xs ≡ true
true_all test [] each = refl
true_all test (x ∷ xs) each = both_true (test x) (list_all test xs) (each x (inl refl)) (true_all test xs (λ y h. each y (inr h)))

-- what is there is found by a test that holds of equals
pub found_by : {X : Type 0} (same : X → X → Bool) → ((x : X) → same x x ≡ true) → (xs : List X) (x : X) → IsAmong x xs → is_among same xs x ≡ true
found_by same itself [] x h = absurd h
found_by same itself (y ∷ ys) x (inl p) = ap (λ z. same z x || is_among same ys x) p ∙ ap (λ b. b || is_among same ys x) (itself x)
found_by same itself (y ∷ ys) x (inr q) = go (same y x) (found_by same itself ys x q)
  where
    go : (b : Bool) → is_among same ys x ≡ true → (b || is_among same ys x) ≡ true
    go true e = refl
    go false e = e
