-- Before anything happened.
use Rattle.std.proofs.Common.{◌≡◌, ℕ, Option, Some, None, [], refl, sym, subst, arith}
use Rattle.core_tree.specs.Syntax.{ModuleTree}
use Rattle.search_numbers.proofs.Everywhere.{places_agree}
use Rattle.search_numbers.specs.Stored.{AreOf, IsStore, IsWorldOf, column_in, module_in, number_in, numbered}
use Rattle.search_numbers.specs.declared.store.Store.{Store}
use Rattle.world_core.proofs.Worlds.{opened}
use Rattle.world_model.specs.World.{beginning, contents}
use Rattle.world_records.specs.Places.{AgreesAt}
use Rattle.world_records.specs.Records.{Agrees}

opening_at : (store : Store) (o : Option ℕ) → numbered store (number_in (λ c. 0) o) ≡ store.opening
opening_at store None = refl
opening_at store (Some c) = refl

-- the world in which all is as it was
pub opened_are : (store : Store) (m : ModuleTree) → module_in store.opening ≡ m → IsStore store → AreOf store (λ c. 0) m []
opened_are store m is whole =
    let agrees : Agrees m store.opening (contents []) = (opened m store.opening (subst (λ n. Agrees n store.opening beginning) is whole.opens)).agrees in
    record {
      program = is;
      has = λ q. subst (λ records. AgreesAt m q records (contents [])) (sym (opening_at store (column_in store.places.items q))) (places_agree m store.opening (contents []) agrees q);
      is_run = tt;
    }

pub opened_world : (store : Store) (m : ModuleTree) → module_in store.opening ≡ m → IsStore store → IsWorldOf store (λ c. 0)
opened_world store m is whole = record {
  whole = whole;
  kept = λ c. (omega arith, λ past. refl);
  reached = record { tree = m; history = []; are = opened_are store m is whole };
}
