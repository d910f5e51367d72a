-- Lists of names that differ, tested one by one.
use Rattle.std.proofs.Common.{◌≡◌, ℕ, zero, suc, ◌<◌, Bool, true, false, ◌||◌, List, [], ◌∷◌, ◌++◌, length, refl, sym, ap, ◌∙◌, arith, inl, inr, ◌⊎◌}
use Rattle.std.specs.Prelude.{Contains, slice_index_or}
use Rattle.std.specs.List.{list_any}
use Rattle.indexmap.proofs.CallerLemmas.{Contains-list_any}

or_cases : (a b : Bool) → (a || b) ≡ true → (a ≡ true) ⊎ (b ≡ true)
or_cases true b e = inl refl
or_cases false b e = inr e

or_right : (a b : Bool) → b ≡ true → (a || b) ≡ true
or_right true b e = refl
or_right false b e = e

or_left : (a b : Bool) → a ≡ true → (a || b) ≡ true
or_left true b e = refl
or_left false b e = absurd cc

is_false : (a : Bool) → (a ≡ true → ⊥) → a ≡ false
is_false true h = absurd (h refl)
is_false false h = refl

module _ {K : Type 0} (eq : K → K → Bool) (same : (x y : K) → eq x y ≡ true → x ≡ y) (own : (x : K) → eq x x ≡ true) where
  abbrev pub among : List K → K → Bool
  among ks k = list_any (eq k) ks

  pub any_contains : (ks : List K) (k : K) → among ks k ≡ true → Contains ks k
  any_contains ks k e = Contains-list_any eq same ks k e

  contains_at : (ks : List K) (k : K) (i : ℕ) → i < length ks → slice_index_or ks i k ≡ k → among ks k ≡ true
  contains_at [] k i lt e = absurd (omega arith)
  contains_at (x ∷ ks) k zero lt e = or_left (eq k x) (among ks k) (ap (eq k) e ∙ own k)
  contains_at (x ∷ ks) k (suc i) lt e = or_right (eq k x) (among ks k) (contains_at ks k i (omega arith) e)

  pub contains_any : (ks : List K) (k : K) → Contains ks k → among ks k ≡ true
  contains_any ks k h = contains_at ks k h.0 h.1 h.2

  among_append : (xs ys : List K) (k : K) → among (xs ++ ys) k ≡ (among xs k || among ys k)
  among_append [] ys k = refl
  among_append (x ∷ xs) ys k = ap (λ (b : Bool). eq k x || b) (among_append xs ys k) ∙ or_assoc (eq k x) (among xs k) (among ys k)
    where
      or_assoc : (a b c : Bool) → (a || (b || c)) ≡ ((a || b) || c)
      or_assoc true b c = refl
      or_assoc false b c = refl

  -- no key is in both
  abbrev pub Disjoint : List K → List K → Type 0
  Disjoint before ks = (k : K) → among before k ≡ true → among ks k ≡ true → ⊥

  pub nothing_before : (ks : List K) → Disjoint [] ks
  nothing_before ks k e h = absurd cc

  before_fresh : (before : List K) (n k : K) → among before k ≡ true → among (before ++ n ∷ []) k ≡ true
  before_fresh before n k e = among_append before (n ∷ []) k ∙ or_left (among before k) (among (n ∷ []) k) e

  last_is : (before : List K) (n : K) → among (before ++ n ∷ []) n ≡ true
  last_is before n = among_append before (n ∷ []) n ∙ or_right (among before n) (among (n ∷ []) n) (or_left (eq n n) false (own n))

  pub fresh_first : (before ks : List K) (n : K) → among before n ≡ false → Disjoint (before ++ n ∷ []) ks → Disjoint before (n ∷ ks)
  fresh_first before ks n fresh apart k e h =
      elim (or_cases (eq k n) (among ks k) h) [
        | inl s ↦ let there : among before n ≡ true = ap (among before) (sym (same k n s)) ∙ e in absurd (cc (fresh, there))
        | inr r ↦ apart k (before_fresh before n k e) r
      ]

  pub not_in : (before ks : List K) (n : K) → Disjoint (before ++ n ∷ []) ks → ¬ (Contains ks n)
  not_in before ks n apart h = apart n (last_is before n) (contains_any ks n h)

  pub no_before : (before ks : List K) (n : K) → Disjoint before (n ∷ ks) → among before n ≡ false
  no_before before ks n apart = is_false (among before n) (λ e. apart n e (or_left (eq n n) (among ks n) (own n)))

  pub move_on : (before ks : List K) (n : K) → Disjoint before (n ∷ ks) → ¬ (Contains ks n) → Disjoint (before ++ n ∷ []) ks
  move_on before ks n apart new k e h =
      elim (or_cases (among before k) (among (n ∷ []) k) (sym (among_append before (n ∷ []) k) ∙ e)) [
        | inl b ↦ apart k b (or_right (eq k n) (among ks k) h)
        | inr l ↦ new (any_contains ks n (ap (among ks) (sym (same k n (only (eq k n) l))) ∙ h))
      ]
    where
      only : (b : Bool) → (b || false) ≡ true → b ≡ true
      only true e = refl
      only false e = absurd cc
