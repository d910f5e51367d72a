-- Patterns and values side by side.
use Rattle.std.proofs.Common.{◌≡◌, ◌∙◌, ◌+◌, ◌<◌, ℕ, zero, suc, Bool, true, false, List, [], ◌∷◌, length, map, drop, get_or, ap, sym, subst, refl, arith, add-one, Result, IfOk, if◌then◌else◌}
use Rattle.std.specs.Prelude.{Option, Some, None}
use Rattle.std.specs.declared.alloc.AllocError.{AllocError}
use Rattle.core_tree.specs.Syntax.{Pattern, patterns_of}
use Rattle.core_tree.specs.Pattern as patterns
use Rattle.core_tree.specs.Tree.{pattern_of}
use Rattle.core_tree.specs.declared.pattern.Pattern.{Pattern as Shape}
use Rattle.term_core.specs.declared.term.Term.{Term}
use Rattle.term_core.specs.Term.{meaning_of}
use Rattle.term_core.specs.Meaning.{Meaning, Tuple, meanings_of, parts_of-meanings_of}
use Rattle.core_stack.specs.inside.Matched.{IsMatch}
use Rattle.core_stack.specs.Matching.{Environment, and_then, match, match_each}

-- a tuple matches its parts one by one
pub group_same : (p : Pattern) (ps : List Pattern) (m : Meaning) (ms : List Meaning) (before : Environment) → p ≡ patterns.Tuple (patterns_of ps) → m ≡ Tuple (meanings_of ms) → match p m before ≡ match_each (patterns_of ps) ms before
group_same p ps m ms before e f =
    ap (λ (q : Pattern). match q m before) e ∙ ap (λ (n : Meaning). match (patterns.Tuple (patterns_of ps)) n before) f ∙ ap (λ (ns : List Meaning). match_each (patterns_of ps) ns before) (parts_of-meanings_of ms)

-- a tuple matches where its parts do
pub group_matches : (r : Result Bool AllocError) (found : Environment) (p : Pattern) (ps : List Pattern) (m : Meaning) (ms : List Meaning) (before : Environment) → p ≡ patterns.Tuple (patterns_of ps) → m ≡ Tuple (meanings_of ms)
    → IfOk r (λ b. IsMatch b found (match_each (patterns_of ps) ms before)) → IfOk r (λ b. IsMatch b found (match p m before))
group_matches r found p ps m ms before e f h = subst (λ (o : Option Environment). IfOk r (λ b. IsMatch b found o)) (sym (group_same p ps m ms before e f)) h

none_then : (o : Option Environment) (go : Environment → Option Environment) → ((before : Environment) → go before ≡ None) → and_then o go ≡ None
none_then None go h = refl
none_then (Some before) go h = h before

-- another number of values than patterns does not match
pub other_count : (ps : List Pattern) (ms : List Meaning) (before : Environment) → (length ps ≡ length ms → ⊥) → match_each (patterns_of ps) ms before ≡ None
other_count [] [] before h = absurd (h refl)
other_count [] (m ∷ ms) before h = refl
other_count (p ∷ ps) [] before h = refl
other_count (p ∷ ps) (m ∷ ms) before h = none_then (match p m before) (λ so_far. match_each (patterns_of ps) ms so_far) (λ so_far. other_count ps ms so_far (λ same. h (ap suc same)))

rest : {X Y : Type 0} (h : X → Y) (xs : List X) (i : ℕ) (x : X) → i < length xs → x ≡ get_or xs i x → drop i (map h xs) ≡ h x ∷ drop (suc i) (map h xs)
rest h [] i x lt e = absurd (omega arith)
rest h (z ∷ zs) zero x lt e = λ j. h (sym e j) ∷ map h zs
rest h (z ∷ zs) (suc i) x lt e = rest h zs i x (omega arith) e

-- one pattern and its value, and those after them
module _ (xs : List Shape) (ys : List Term) (ps : List Pattern) (ms : List Meaning) (p : map pattern_of xs ≡ ps) (q : map meaning_of ys ≡ ms) (i : ℕ) (x : Shape) (y : Term) (lt : i < length xs) (same : length xs ≡ length ys) (e : x ≡ get_or xs i x) (f : y ≡ get_or ys i y) where
  step : (before : Environment) → match_each (patterns_of (drop i ps)) (drop i ms) before ≡ and_then (match (pattern_of x) (meaning_of y) before) (λ so_far. match_each (patterns_of (drop (i + 1) ps)) (drop (i + 1) ms) so_far)
  step before = rw (add-one, ← p, ← q) (λ j. match_each (patterns_of (rest pattern_of xs i x lt e j)) (rest meaning_of ys i y (omega (arith, lt, same)) f j) before)

  pub each_fails : (b : Bool) (before found : Environment) (all : Option Environment) → IsMatch b found (match (pattern_of x) (meaning_of y) before) → b ≡ false → match_each (patterns_of (drop i ps)) (drop i ms) before ≡ all → all ≡ None
  each_fails b before found all h off so_far =
      let none : match (pattern_of x) (meaning_of y) before ≡ None = h ∙ ap (λ (c : Bool). if c then Some found else None) off in
      sym so_far ∙ step before ∙ ap (λ (o : Option Environment). and_then o (λ so_far. match_each (patterns_of (drop (i + 1) ps)) (drop (i + 1) ms) so_far)) none

  pub each_goes_on : (b : Bool) (before found : Environment) (all : Option Environment) → IsMatch b found (match (pattern_of x) (meaning_of y) before) → b ≡ true → match_each (patterns_of (drop i ps)) (drop i ms) before ≡ all → match_each (patterns_of (drop (i + 1) ps)) (drop (i + 1) ms) found ≡ all
  each_goes_on b before found all h on so_far =
      let some : match (pattern_of x) (meaning_of y) before ≡ Some found = h ∙ ap (λ (c : Bool). if c then Some found else None) on in
      sym (step before ∙ ap (λ (o : Option Environment). and_then o (λ so_far. match_each (patterns_of (drop (i + 1) ps)) (drop (i + 1) ms) so_far)) some) ∙ so_far
