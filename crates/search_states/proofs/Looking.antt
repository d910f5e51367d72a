-- What is read of what was seen.
use Rattle.std.proofs.Common.{◌≡◌, ◌++◌, ◌∷◌, [], ℕ, List, Some, true, sym, subst}
use Rattle.core_tree.specs.Syntax.{ModuleTree}
use Rattle.search_levels.specs.Arrivals.{Arrived}
use Rattle.search_levels.specs.declared.arrival.Arrival.{Arrival}
use Rattle.search_numbers.specs.Knowing.{AreRight, GoesOn, IsTaken, IsThere, KnowsMore}
use Rattle.search_numbers.specs.Local.{HasAll}
use Rattle.search_numbers.specs.Rows.{numbers_in}
use Rattle.search_numbers.specs.Stored.{IsWorldOf, part_at}
use Rattle.search_numbers.specs.declared.known.Known.{Known}
use Rattle.search_states.proofs.Deadlocks.{arrival_of}
use Rattle.search_states.proofs.There.{still_read}
use Rattle.search_states.specs.inside.Keeping.{AddsDeadlockIn, CanRead, PutsArrival}
use Rattle.world_model.specs.Cells.{Contents}
use Rattle.world_records.specs.Records.{Agrees}
use Rattle.world_records.specs.declared.records.Records.{Records}

pub some_is : {X : Type 0} {x y : X} → Some x ≡ Some y → x ≡ y
some_is e = cc

pub world_seen : (read seen : Known) (numbers : ℕ → ℕ) → read ≡ seen → IsWorldOf seen.store numbers → IsWorldOf read.store numbers
world_seen read seen numbers same = subst (λ (k : Known). IsWorldOf k.store numbers) (sym same)

pub world_back : (read seen : Known) (numbers : ℕ → ℕ) → read ≡ seen → IsWorldOf read.store numbers → IsWorldOf seen.store numbers
world_back read seen numbers same = subst (λ (k : Known). IsWorldOf k.store numbers) same

pub right_seen : (read seen : Known) → read ≡ seen → AreRight seen → AreRight read
right_seen read seen same = subst AreRight (sym same)

pub there_seen : (read seen : Known) (numbers : ℕ → ℕ) (at : ℕ) → read ≡ seen → IsThere seen numbers at → IsThere read numbers at
there_seen read seen numbers at same = subst (λ (k : Known). IsThere k numbers at) (sym same)

-- records of a world that was read are those of the world that was seen
pub agree_seen : (read seen : Known) (numbers : ℕ → ℕ) (records : Records) → read ≡ seen → ((m : ModuleTree) (v : Contents) → HasAll m (part_at read.store numbers) v → Agrees m records v) → (m : ModuleTree) (v : Contents) → HasAll m (part_at seen.store numbers) v → Agrees m records v
agree_seen read seen numbers records same = subst (λ (k : Known). (m : ModuleTree) (v : Contents) → HasAll m (part_at k.store numbers) v → Agrees m records v) same

pub goes_seen : (read seen : Known) (numbers : ℕ → ℕ) → read ≡ seen → (AreRight read → GoesOn read numbers true) → AreRight seen → GoesOn seen numbers true
goes_seen read seen numbers same = subst (λ (k : Known). AreRight k → GoesOn k numbers true) same

-- what was taken is put, with the deadlock there
pub put_seen : (read seen new : Known) (numbers : ℕ → ℕ) (at : ℕ) (row : List ℕ) (taken to : Arrival) (before after : List Arrived) → read ≡ seen → KnowsMore seen new → CanRead seen numbers → IsTaken read numbers at (numbers_in row) taken → IsWorldOf read.store (numbers_in row) → to.step ≡ taken.step
    → AddsDeadlockIn new (numbers_in row) taken.shown.items to.shown.items → after ≡ before ++ record { of = to; row = row } ∷ [] → PutsArrival seen new numbers at before after
put_seen read seen new numbers at row taken to before after same more can is world step adds put = record {
  one = record { of = to; row = row };
  put = put;
  is = arrival_of seen new numbers at row taken to more (subst (λ (k : Known). IsTaken k numbers at (numbers_in row) taken) same is) step adds;
  read = still_read seen new (numbers_in row) more (can.0, world_back read seen (numbers_in row) same world);
}
