-- Steps along the parts of two tuples.
use Rattle.std.proofs.Common.{◌≡◌, ℕ, zero, suc, ◌+◌, ◌<◌, ◌≤◌, Bool, true, false, ◌&&◌, List, [], ◌∷◌, length, get_or, drop, map, refl, sym, ap, arith, add-one}
use Rattle.term_core.specs.Meaning.{meanings_of, node_count, sum_of_nodes}
use Rattle.term_core.specs.Term.{meaning_of}
use Rattle.term_core.specs.declared.term.Term.{Term}
use Rattle.tree_excuses.specs.Patterns.{all_match, matches}

-- whether the parts from a place on match
abbrev pub all_from : ℕ → List Term → List Term → Bool
all_from i ps ts = all_match (meanings_of (map meaning_of (drop i ps))) (meanings_of (map meaning_of (drop i ts)))

at_place : (ps ts : List Term) (i : ℕ) (p t : Term) → i < length ps → i < length ts → p ≡ get_or ps i p → t ≡ get_or ts i t → all_from i ps ts ≡ (matches (meaning_of p) (meaning_of t) && all_from (suc i) ps ts)
at_place [] ts i p t h k e f = absurd (omega arith)
at_place (q ∷ ps) [] i p t h k e f = absurd (omega arith)
at_place (q ∷ ps) (u ∷ ts) zero p t h k e f = λ j. matches (meaning_of (sym e j)) (meaning_of (sym f j)) && all_match (meanings_of (map meaning_of ps)) (meanings_of (map meaning_of ts))
at_place (q ∷ ps) (u ∷ ts) (suc i) p t h k e f = at_place ps ts i p t (omega arith) (omega arith) e f

-- those at the place, and those after it
pub step : (ps ts : List Term) (i : ℕ) (p t : Term) → i < length ps → i < length ts → p ≡ get_or ps i p → t ≡ get_or ts i t → all_from i ps ts ≡ (matches (meaning_of p) (meaning_of t) && all_from (i + 1) ps ts)
step ps ts i p t h k e f = rw add-one (at_place ps ts i p t h k e f)

both_false : (a b : Bool) → false ≡ b → false ≡ (a && b)
both_false true b e = e
both_false false b e = refl

-- tuples of different sizes
pub differ : (ps ts : List Term) → (length ps ≡ length ts → ⊥) → false ≡ all_match (meanings_of (map meaning_of ps)) (meanings_of (map meaning_of ts))
differ [] [] h = absurd (h refl)
differ [] (t ∷ ts) h = refl
differ (p ∷ ps) [] h = refl
differ (p ∷ ps) (t ∷ ts) h = both_false (matches (meaning_of p) (meaning_of t)) _ (differ ps ts (λ e. h (ap suc e)))

-- no part has more nodes than all parts together
pub part : (ps : List Term) (i : ℕ) (p : Term) → i < length ps → p ≡ get_or ps i p → node_count (meaning_of p) ≤ sum_of_nodes (map meaning_of ps)
part [] i p h e = absurd (omega arith)
part (q ∷ ps) zero p h e = omega (arith, ap (λ x. node_count (meaning_of x)) e)
part (q ∷ ps) (suc i) p h e = omega (arith, part ps i p (omega arith) e)
