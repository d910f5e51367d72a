-- Mailboxes that are compared as the same have the same messages.
use Rattle.std.proofs.Common.{◌≡◌, true, List, [], ◌∷◌, refl}
use Rattle.std.proofs.lemmas.Bool.{and_parts}
use Rattle.std.specs.Cmp.Lexicographic.{pointwise}
use Rattle.term_core.proofs.Equality.{terms_same}
use Rattle.term_core.specs.Meaning.{Meaning}
use Rattle.world_model.specs.Names.{same_term}

pub messages_told : (xs ys : List Meaning) → pointwise same_term xs ys ≡ true → xs ≡ ys
messages_told [] [] e = refl
messages_told [] (y ∷ ys) e = cc
messages_told (x ∷ xs) [] e = cc
messages_told (x ∷ xs) (y ∷ ys) e =
    let p = and_parts (same_term x y) (pointwise same_term xs ys) e in
    λ i. (terms_same x y _ refl).0 p.0 i ∷ messages_told xs ys p.1 i
