-- What guards references after one begins or ends.
use Rattle.std.proofs.Common.{◌≡◌, ◌⊎◌, inl, inr, Bool, true, false, List, [], ◌∷◌, Option, Some, option_map, if◌then◌else◌, option_and_then, ap, sym, ◌∙◌, refl}
use Rattle.std.specs.BTreeMap.{BTreeMap, get, is_at}
use Rattle.std.specs.Map.{lookup}
use Rattle.term_core.specs.StepOrder.{order_of_reference_ids}
use Rattle.world_model.specs.Cells as cells
use Rattle.world_model.specs.Cells.{Contents}
use Rattle.world_model.specs.Changes.{changed, GuardUnwatched}
use Rattle.world_model.specs.Guards as guards
use Rattle.world_model.specs.Guards.{unwatched}
use Rattle.world_model.specs.Names.{Ref, same_ref, ref_of}
use Rattle.proc_groups.proofs.Referring.{Id, refs_same}
use Rattle.world_model.proofs.Meeting.{refs_same as ref_is}
use Rattle.proc_links.specs.Guards.{guard_of, guard_in, AreGuards}
use Rattle.proc_links.specs.inside.Guarded.{IsGuardSet}
use Rattle.proc_links.specs.declared.guards.Guard.{Guard}
use Rattle.proc_links.specs.declared.guards.Guards.{Guards}

abbrev pub Map : Type 0
Map = BTreeMap Id Guard

-- entries with the same references and guards
abbrev pub AreAlike : List (Id × Guard) → List (Id × Guard) → Type 0
AreAlike [] [] = Unit {0}
AreAlike [] (y ∷ ys) = ⊥
AreAlike (x ∷ xs) [] = ⊥
AreAlike (x ∷ xs) (y ∷ ys) = ((y.0 ≡ x.0) × (guard_of y.1 ≡ guard_of x.1)) × AreAlike xs ys

found_by : (b : Bool) (x y : Guard) (one other : Option Guard) → guard_of y ≡ guard_of x → option_map guard_of other ≡ option_map guard_of one → option_map guard_of (if b then Some y else other) ≡ option_map guard_of (if b then Some x else one)
found_by true x y one other same rest = ap Some same
found_by false x y one other same rest = rest

found_alike : (test : Id → Bool) (xs ys : List (Id × Guard)) → AreAlike xs ys → option_map guard_of (lookup test ys) ≡ option_map guard_of (lookup test xs)
found_alike test [] [] same = refl
found_alike test [] (y ∷ ys) same = absurd same
found_alike test (x ∷ xs) [] same = absurd same
found_alike test (x ∷ xs) (y ∷ ys) same =
    ap (λ id. option_map guard_of (if test id then Some y.1 else lookup test ys)) same.0.0
    ∙ found_by (test x.0) x.1 y.1 (lookup test xs) (lookup test ys) same.0.1 (found_alike test xs ys same.1)

pub same_guards : (old now : Map) → (now ≡ old) ⊎ AreAlike old.entries now.entries → (id : Id) → option_map guard_of (get order_of_reference_ids now id) ≡ option_map guard_of (get order_of_reference_ids old id)
same_guards old now (inl e) id = ap (λ m. option_map guard_of (get order_of_reference_ids m id)) e
same_guards old now (inr same) id = found_alike (is_at (order_of_reference_ids id)) old.entries now.entries same

over_if : (b : Bool) (w o : Option Guard) → option_map guard_of (if b then w else o) ≡ (if b then option_map guard_of w else option_map guard_of o)
over_if true w o = refl
over_if false w o = refl

-- at one reference another guard
pub now_guarded : (old new : Guards) (b c : Map) (x : Id) (w : Option Guard) → ((id : Id) → option_map guard_of (get order_of_reference_ids b id) ≡ option_map guard_of (get order_of_reference_ids old.guards.value id))
    → IsGuardSet x w b c → new.guards.value ≡ c → (v : Contents) → AreGuards old v → (ref : Ref) → guard_in new ref ≡ (if same_ref (ref_of x) ref then option_map guard_of w else v (cells.Guard ref))
now_guarded old new b c x w same change now v told ref =
    let id : Id = (ref.pid, ref.number) in
    ap (λ m. option_map guard_of (get order_of_reference_ids m id)) now
    ∙ ap (option_map guard_of) (change id)
    ∙ over_if (is_at (order_of_reference_ids x) id) w (get order_of_reference_ids b id)
    ∙ ap (λ t. if t then option_map guard_of w else option_map guard_of (get order_of_reference_ids b id)) (refs_same x id)
    ∙ ap (λ o. if same_ref (ref_of x) ref then option_map guard_of w else o) (same id ∙ told ref)

-- what is left of a guard where the watch of its reference ends
unwatched_at : (b : Bool) (left o there : Option guards.Guard) → (b ≡ true → option_and_then unwatched there ≡ left) → o ≡ (if b then left else there) → o ≡ (if b then option_and_then unwatched there else there)
unwatched_at true left o there leaves is = is ∙ sym (leaves refl)
unwatched_at false left o there leaves is = is

pub unwatched_by : (left : Option guards.Guard) (old new : Guards) (u : Ref) (g : guards.Guard) → guard_in old u ≡ Some g → unwatched g ≡ left
    → ((v : Contents) → AreGuards old v → (ref : Ref) → guard_in new ref ≡ (if same_ref u ref then left else v (cells.Guard ref))) → (v : Contents) → AreGuards old v → AreGuards new (changed (GuardUnwatched u) v)
unwatched_by left old new u g is leaves now v told ref =
    unwatched_at (same_ref u ref) left (guard_in new ref) (v (cells.Guard ref)) (λ same. ap (λ r. option_and_then unwatched (v (cells.Guard r))) (sym (ref_is u ref same)) ∙ ap (option_and_then unwatched) (sym (told u) ∙ is) ∙ leaves) (now v told ref)
