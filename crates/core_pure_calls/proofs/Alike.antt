-- Entries that are compared as the same have the same keys and values.
use Rattle.std.proofs.Common.{◌≡◌, Bool, true, List, [], ◌∷◌, map, ◌&&◌, ap, refl}
use Rattle.std.proofs.lemmas.Bool.{and_parts}
use Rattle.std.specs.Cmp.Lexicographic.{pointwise}
use Rattle.std.specs.Ordering.{eq_by_cmp}
use Rattle.term_core.proofs.Equality.{terms_same}
use Rattle.term_core.specs.Order.{order_of_terms}
use Rattle.term_core.specs.Term.{meaning_of}
use Rattle.core_pure_calls.specs.declared.dictionary.Entry.{Entry}
use Rattle.core_pure_calls.specs.Entries.{entry_of}

abbrev pub same_entry : Entry → Entry → Bool
same_entry a b = eq_by_cmp order_of_terms (meaning_of a.key) (meaning_of b.key) && eq_by_cmp order_of_terms (meaning_of a.value) (meaning_of b.value)

entry_told : (a b : Entry) → same_entry a b ≡ true → entry_of a ≡ entry_of b
entry_told a b e =
    let p = and_parts (eq_by_cmp order_of_terms (meaning_of a.key) (meaning_of b.key)) (eq_by_cmp order_of_terms (meaning_of a.value) (meaning_of b.value)) e in
    λ i. ((terms_same (meaning_of a.key) (meaning_of b.key) _ refl).0 p.0 i, (terms_same (meaning_of a.value) (meaning_of b.value) _ refl).0 p.1 i)

pub entries_told : (xs ys : List Entry) → pointwise same_entry xs ys ≡ true → map entry_of xs ≡ map entry_of ys
entries_told [] [] e = refl
entries_told [] (y ∷ ys) e = cc
entries_told (x ∷ xs) [] e = cc
entries_told (x ∷ xs) (y ∷ ys) e =
    let p = and_parts (same_entry x y) (pointwise same_entry xs ys) e in
    λ i. entry_told x y p.0 i ∷ entries_told xs ys p.1 i
