-- Variables that are compared as the same have the same names and values.
use Rattle.std.proofs.Common.{◌≡◌, Bool, true, List, [], ◌∷◌, map, ◌&&◌, ap, refl}
use Rattle.std.proofs.lemmas.Bool.{and_parts}
use Rattle.std.proofs.lemmas.Slice.Eq.{bytes_eq-Decides}
use Rattle.std.specs.Cmp.Lexicographic.{pointwise}
use Rattle.std.specs.Ordering.{eq_by_cmp}
use Rattle.std.specs.Str.{bytes_eq}
use Rattle.term_core.proofs.Equality.{terms_same}
use Rattle.term_core.specs.Order.{order_of_terms}
use Rattle.term_core.specs.Term.{meaning_of}
use Rattle.core_stack.specs.declared.bindings.Binding.{Binding}
use Rattle.core_stack.specs.inside.Bindings.{binding_of}

abbrev pub same_binding : Binding → Binding → Bool
same_binding a b = bytes_eq a.name.now b.name.now && eq_by_cmp order_of_terms (meaning_of a.value) (meaning_of b.value)

binding_told : (a b : Binding) → same_binding a b ≡ true → binding_of a ≡ binding_of b
binding_told a b e =
    let p = and_parts (bytes_eq a.name.now b.name.now) (eq_by_cmp order_of_terms (meaning_of a.value) (meaning_of b.value)) e in
    λ i. ((bytes_eq-Decides a.name.now b.name.now).0 p.0 i, (terms_same (meaning_of a.value) (meaning_of b.value) _ refl).0 p.1 i)

pub bindings_told : (xs ys : List Binding) → pointwise same_binding xs ys ≡ true → map binding_of xs ≡ map binding_of ys
bindings_told [] [] e = refl
bindings_told [] (y ∷ ys) e = cc
bindings_told (x ∷ xs) [] e = cc
bindings_told (x ∷ xs) (y ∷ ys) e =
    let p = and_parts (same_binding x y) (pointwise same_binding xs ys) e in
    λ i. binding_told x y p.0 i ∷ bindings_told xs ys p.1 i
