-- Names that are compared as the same are the same.
use Rattle.std.proofs.Common.{◌≡◌, ℕ, Bool, true, false, List, [], ◌∷◌, refl, sym, arith}
use Rattle.std.specs.Prelude.{◌==◌, ◌&&◌}
use Rattle.std.proofs.lemmas.Bool.{eqb-true}
use Rattle.std.proofs.lemmas.Bool.Decides.{nat_tests}
use Rattle.std.specs.Cmp.Lexicographic.{pointwise, same_text as texts_are_one}
use Rattle.core_tree.specs.Syntax.{Function}
use Rattle.core_tree.specs.Functions.{same_function}
use Rattle.term_core.specs.Kinds.{same_text}

abbrev pub turned : List ℕ → List ℕ → Bool
turned a b = same_text b a

pub turned_same : (a b : List ℕ) → turned a b ≡ true → a ≡ b
turned_same a b e = sym (texts_are_one b a (sym e))

number_own : (n : ℕ) → (n == n) ≡ true
number_own n = grind (arith, nat_tests)

pub bytes_own : (a : List ℕ) → same_text a a ≡ true
bytes_own [] = refl
bytes_own (x ∷ xs) = rw (number_own x) (bytes_own xs)

pub function_own : (f : Function) → same_function f f ≡ true
function_own f = rw (bytes_own f.name, number_own f.arity) refl

pub same_function_is : (f g : Function) → same_function f g ≡ true → f ≡ g
same_function_is f g e =
    let h = both_true (pointwise ◌==◌ f.name g.name) (f.arity == g.arity) e in
    let name : f.name ≡ g.name = texts_are_one f.name g.name (sym h.0) in
    let arity : f.arity ≡ g.arity = eqb-true _ _ h.1 in
    λ i. record { name = name i; arity = arity i }
  where
    both_true : (a b : Bool) → (a && b) ≡ true → (a ≡ true) × (b ≡ true)
    both_true true b e = (refl, e)
    both_true false b e = absurd cc
