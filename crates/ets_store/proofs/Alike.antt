-- Objects and rows that are compared as the same are the same.
use Rattle.std.proofs.Common.{◌≡◌, ◌&&◌, Bool, true, List, [], ◌∷◌, refl, ap}
use Rattle.std.proofs.lemmas.Bool.{and_parts}
use Rattle.std.specs.Cmp.Lexicographic.{pointwise}
use Rattle.std.specs.FinMap.{from_sorted}
use Rattle.std.specs.Ordering.{eq_by_cmp}
use Rattle.term_core.proofs.Equality.{terms_same}
use Rattle.term_core.specs.Order.{order_of_terms}
use Rattle.term_core.specs.Term.{meaning_of}
use Rattle.term_core.specs.declared.term.Term.{Term}
use Rattle.world_model.specs.Rows.{Object, same_object}
use Rattle.world_model.specs.Terms.{tuple}
use Rattle.ets_store.specs.inside.Alike.{same_objects}
use Rattle.ets_store.specs.inside.Shown.{rows_of, shown}
use Rattle.ets_store.proofs.Same.{untuple}

object_told : (a b : Object) → same_object a b ≡ true → a ≡ b
object_told a b e = untuple a b ((terms_same (tuple a) (tuple b) (same_object a b) refl).0 e)

objects_told : (xs ys : List Object) → same_objects xs ys ≡ true → xs ≡ ys
objects_told [] [] e = refl
objects_told [] (y ∷ ys) e = cc
objects_told (x ∷ xs) [] e = cc
objects_told (x ∷ xs) (y ∷ ys) e =
    let p = and_parts (same_object x y) (same_objects xs ys) e in
    λ i. object_told x y p.0 i ∷ objects_told xs ys p.1 i

abbrev same_entry : Term × List Object → Term × List Object → Bool
same_entry e f = eq_by_cmp order_of_terms (meaning_of e.0) (meaning_of f.0) && same_objects e.1 f.1

shown_told : (es fs : List (Term × List Object)) → pointwise same_entry es fs ≡ true → shown es ≡ shown fs
shown_told [] [] e = refl
shown_told [] (g ∷ gs) e = cc
shown_told (f ∷ fs) [] e = cc
shown_told (f ∷ fs) (g ∷ gs) e =
    let p = and_parts (same_entry f g) (pointwise same_entry fs gs) e in
    let q = and_parts (eq_by_cmp order_of_terms (meaning_of f.0) (meaning_of g.0)) (same_objects f.1 g.1) p.0 in
    λ i. ((terms_same (meaning_of f.0) (meaning_of g.0) _ refl).0 q.0 i, objects_told f.1 g.1 q.1 i) ∷ shown_told fs gs p.1 i

pub rows_told : (es fs : List (Term × List Object)) → pointwise same_entry es fs ≡ true → rows_of es ≡ rows_of fs
rows_told es fs e = ap from_sorted (shown_told es fs e)
