-- Lists, cell by cell and item by item.
use Rattle.std.proofs.Common.{◌≡◌, ℕ, zero, suc, ◌<◌, Bool, true, false, cond, List, [], ◌∷◌, ◌++◌, map, length, Option, Some, None, option_map, refl, sym, ap, ◌∙◌, arith}
use Rattle.std.specs.Prelude.{reverse, slice_set}
use Rattle.std.specs.List.{remove}
use Rattle.std.proofs.lemmas.List.{reverse-append, map-append, map-set}
use Rattle.term_core.specs.Meaning.{Meaning}
use Rattle.term_core.specs.Term.{meaning_of}
use Rattle.term_core.specs.declared.term.Term.{Term}
use Rattle.core_pure_calls.specs.Comparing.{are_equal}
use Rattle.core_pure_calls.specs.Lists.{without_first}
use Rattle.core_pure_calls.specs.inside.Walks.{first_equal}

-- what terms mean, from the end
pub map_reverse : (ts : List Term) → map meaning_of (reverse ts) ≡ reverse (map meaning_of ts)
map_reverse [] = refl
map_reverse (t ∷ ts) = ap (map meaning_of) (reverse-append (t ∷ []) ts) ∙ map-append meaning_of (reverse ts) (t ∷ []) ∙ ap (λ (ms : List Meaning). ms ++ meaning_of t ∷ []) (map_reverse ts) ∙ sym (reverse-append (meaning_of t ∷ []) (map meaning_of ts))

-- what terms mean after one was replaced
pub map_replaced : (ts : List Term) (k : ℕ) (t : Term) → map meaning_of (slice_set ts k t) ≡ slice_set (map meaning_of ts) k (meaning_of t)
map_replaced ts k t = map-set meaning_of ts k t

-- the first item that is equal is among the items, and without it they are without the first that is equal
pub first_removed : (m : Meaning) (ts : List Term) (k : ℕ) → first_equal m (map meaning_of ts) ≡ Some k → (k < length ts) × (map meaning_of (remove ts k) ≡ without_first m (map meaning_of ts))
first_removed m [] k e = absurd cc
first_removed m (t ∷ ts) k e = by (λ j h. first_removed m ts j h) (are_equal (meaning_of t) m) (first_equal m (map meaning_of ts)) refl k e
  where
    by : ((j : ℕ) → first_equal m (map meaning_of ts) ≡ Some j → (j < length ts) × (map meaning_of (remove ts j) ≡ without_first m (map meaning_of ts))) → (b : Bool) (r : Option ℕ) → first_equal m (map meaning_of ts) ≡ r → (k : ℕ) → cond b (Some 0) (option_map suc r) ≡ Some k
        → (k < suc (length ts)) × (map meaning_of (remove (t ∷ ts) k) ≡ cond b (map meaning_of ts) (meaning_of t ∷ without_first m (map meaning_of ts)))
    by again true r p zero q = (omega arith, refl)
    by again true r p (suc n) q = let s : 0 ≡ suc n = cc in absurd (omega arith)
    by again false None p k q = absurd cc
    by again false (Some j) p zero q = let s : suc j ≡ 0 = cc in absurd (omega arith)
    by again false (Some j) p (suc n) q =
        let s : suc j ≡ suc n = cc in
        let h : j ≡ n = omega arith in
        let rest = again n (p ∙ ap (λ (x : ℕ). Some x) h) in
        (omega (arith, rest.0), ap (λ (ms : List Meaning). meaning_of t ∷ ms) rest.1)

-- where no item is equal they stay as they are
pub none_removed : (m : Meaning) (ms : List Meaning) → first_equal m ms ≡ None → ms ≡ without_first m ms
none_removed m [] e = refl
none_removed m (n ∷ ms) e = by (none_removed m ms) (are_equal n m) (first_equal m ms) refl e
  where
    by : (first_equal m ms ≡ None → ms ≡ without_first m ms) → (b : Bool) (r : Option ℕ) → first_equal m ms ≡ r → cond b (Some 0) (option_map suc r) ≡ None → n ∷ ms ≡ cond b ms (n ∷ without_first m ms)
    by again true r p q = absurd cc
    by again false None p q = ap (λ (x : List Meaning). n ∷ x) (again p)
    by again false (Some j) p q = absurd cc
