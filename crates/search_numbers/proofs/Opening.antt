-- What a store keeps before anything happened.
use Rattle.std.proofs.Common.{◌≡◌, ◌∙◌, ◌∷◌, ℕ, zero, suc, List, [], Some, refl, sym, ap, subst}
use Rattle.std.specs.List.{AllByRecursion}
use Rattle.core_tree.specs.Syntax.{ModuleTree}
use Rattle.std.proofs.Common.{arith}
use Rattle.std.proofs.lemmas.Grind.{common_steps}
use Rattle.search_numbers.proofs.Asking.{place_itself}
use Rattle.search_numbers.specs.Stored.{BeginAll, EachBegins, HaveColumns, IsPart, Starts, column_in, module_in, step_at}
use Rattle.std.specs.Map.{keys_of}
use Rattle.term_core.specs.declared.step.Step.{Step}
use Rattle.term_core.specs.declared.step.Step.TheVariants.{Turn}
use Rattle.world_model.specs.Names.{IsAmong}
use Rattle.world_records.specs.declared.place.Place.{Place}
use Rattle.world_records.specs.declared.place.Place.TheVariants.{Course}
use Rattle.search_numbers.specs.declared.store.Part.{Part}
use Rattle.world_model.specs.World.{beginning}
use Rattle.world_records.specs.Records.{Agrees}
use Rattle.world_records.specs.declared.records.Records.{Records}

pub opens_as : (records : Records) (m : ModuleTree) → Agrees m records beginning → Agrees (module_in records) records beginning
opens_as records m is = subst (λ n. Agrees n records beginning) (sym is.processes_are.program) is

pub nothing_kept : (opening : Records) (parts : List Part) → parts ≡ [] → AllByRecursion (IsPart opening) parts
nothing_kept opening parts none = subst (AllByRecursion (IsPart opening)) (sym none) tt

-- ---- the course of the first process alone

some_is : {X : Type 0} {x y : X} → Some x ≡ Some y → x ≡ y
some_is e = cc

first_column : (q : Place) → column_in (q ∷ []) q ≡ Some 0
first_column q = grind (arith, common_steps, place_itself q)

alone : (first : Place) → HaveColumns (first ∷ [])
alone first zero q is = subst (λ p. column_in (first ∷ []) p ≡ Some 0) (some_is is) (first_column first)
alone first (suc c) q is = absurd cc

pub one_column : (places : List Place) → places ≡ Course [] ∷ [] → HaveColumns places
one_column places is = subst HaveColumns (sym is) (alone (Course []))

-- its turn begins there
pub first_placed : (places : List Place) (entries : List (Step × ℕ)) → places ≡ Course [] ∷ [] → entries ≡ (Turn [], 0) ∷ [] → EachBegins places entries
first_placed places entries one is =
    subst (EachBegins places) (sym is) (subst (λ ps. EachBegins ps ((Turn [], 0) ∷ [])) (sym one) (record { place = Course []; there = refl; begins = refl }, tt))

first_begins : (entries : List (Step × ℕ)) → Starts entries → BeginAll (Course [] ∷ []) entries
first_begins entries starts zero q s is begins = subst (λ x. IsAmong x (keys_of entries)) (some_is (ap step_at (some_is is) ∙ begins)) starts
first_begins entries starts (suc c) q s is begins = absurd cc

pub one_begins : (places : List Place) (entries : List (Step × ℕ)) → places ≡ Course [] ∷ [] → Starts entries → BeginAll places entries
one_begins places entries is starts = subst (λ ps. BeginAll ps entries) (sym is) (first_begins entries starts)
