-- Two objects are the same where their parts are.
use Rattle.std.proofs.Common.{◌≡◌, ◌↔◌, Bool, IsTrue, List, [], refl, sym, ap, ◌∙◌}
use Rattle.std.specs.Cmp.{both_ways}
use Rattle.std.specs.Ordering.{eq_by_cmp}
use Rattle.term_core.proofs.Equality.{terms_same, items_same}
use Rattle.term_core.specs.Meaning.{Meaning, Tuple, parts_of, parts_of-meanings_of}
use Rattle.term_core.specs.Order.{order_of_items}
use Rattle.world_model.specs.Rows.{Object, same_object}
use Rattle.world_model.specs.Terms.{tuple}

abbrev parts : Meaning → List Meaning
parts (Tuple ms) = parts_of ms
parts m = []

pub untuple : (a b : Object) → tuple a ≡ tuple b → a ≡ b
untuple a b e = sym (parts_of-meanings_of a) ∙ ap parts e ∙ parts_of-meanings_of b

pub objects_same : (a b : Object) (r : Bool) → r ≡ eq_by_cmp order_of_items a b → r ≡ same_object a b
objects_same a b r e =
    let is : IsTrue r ↔ (a ≡ b) = items_same a b r e in
    both_ways r (same_object a b)
    (λ h. (terms_same (tuple a) (tuple b) (same_object a b) refl).1 (ap tuple (is.0 h)))
    (λ h. is.1 (untuple a b ((terms_same (tuple a) (tuple b) (same_object a b) refl).0 h)))
