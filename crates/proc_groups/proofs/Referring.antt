-- Sets of references, as the model has them.
use Rattle.std.proofs.Common.{◌≡◌, ◌&&◌, ℕ, Bool, true, false, List, [], ◌∷◌, map, if◌then◌else◌, refl, ap, ◌∙◌}
use Rattle.std.specs.BTreeMap.{is_at}
use Rattle.std.specs.Cmp.{unsigned_tied}
use Rattle.std.specs.Ordering.{is_eq, nat_cmp, ordering_then}
use Rattle.std.specs.declared.cmp.Ordering.{Ordering}
use Rattle.std.specs.declared.cmp.Ordering.TheVariants.{Less, Equal, Greater}
use Rattle.std.proofs.lemmas.Map.Text.{is_eq-slice_cmp}
use Rattle.term_core.specs.Order.{order_of_lists}
use Rattle.term_core.specs.StepOrder.{order_of_reference_ids}
use Rattle.world_model.specs.Changes.{set_before, set_in_order, without_first}
use Rattle.world_model.specs.Names.{same_pid, same_ref, order_of_refs, ref_of}

abbrev pub Id : Type 0
Id = List ℕ × ℕ

is_eq-then : (a b : Ordering) → is_eq (ordering_then a b) ≡ (is_eq a && is_eq b)
is_eq-then Less b = refl
is_eq-then Equal b = refl
is_eq-then Greater b = refl

pub refs_same : (x y : Id) → is_at (order_of_reference_ids x) y ≡ same_ref (ref_of x) (ref_of y)
refs_same x y = is_eq-then (order_of_lists x.0 y.0) (nat_cmp x.1 y.1) ∙ ap (λ b. b && is_eq (nat_cmp x.1 y.1)) (is_eq-slice_cmp x.0 y.0) ∙ ap (λ b. same_pid x.0 y.0 && b) (unsigned_tied x.1 y.1)

before_refs : (o : Ordering) (x y : Id) (ys rest : List Id) → map ref_of (set_before o x y ys rest) ≡ set_before o (ref_of x) (ref_of y) (map ref_of ys) (map ref_of rest)
before_refs Less x y ys rest = refl
before_refs Equal x y ys rest = refl
before_refs Greater x y ys rest = refl

pub refs_in_order : (x : Id) (xs : List Id) → map ref_of (set_in_order order_of_reference_ids x xs) ≡ set_in_order order_of_refs (ref_of x) (map ref_of xs)
refs_in_order x [] = refl
refs_in_order x (y ∷ ys) = before_refs (order_of_reference_ids x y) x y ys _ ∙ ap (set_before (order_of_reference_ids x y) (ref_of x) (ref_of y) (map ref_of ys)) (refs_in_order x ys)

pub map_if : {A B : Type 0} (f : A → B) (b : Bool) (xs ys : List A) → map f (if b then xs else ys) ≡ (if b then map f xs else map f ys)
map_if f true xs ys = refl
map_if f false xs ys = refl

pub refs_without : (x : Id) (xs : List Id) → map ref_of (without_first (is_at (order_of_reference_ids x)) xs) ≡ without_first (same_ref (ref_of x)) (map ref_of xs)
refs_without x [] = refl
refs_without x (y ∷ ys) =
    map_if ref_of (is_at (order_of_reference_ids x) y) ys _ ∙ ap (λ b. if b then map ref_of ys else ref_of y ∷ map ref_of (without_first (is_at (order_of_reference_ids x)) ys)) (refs_same x y)
    ∙ ap (λ zs. if same_ref (ref_of x) (ref_of y) then map ref_of ys else ref_of y ∷ zs) (refs_without x ys)
