-- How a step of a world is remembered.
use Rattle.std.specs.List.{AllByRecursion}
use Rattle.std.specs.Prelude.{◌≡◌, ◌≤◌, ℕ, true, false, List, length, map}
use Rattle.core_tree.specs.Syntax.{ModuleTree}
use Rattle.search_numbers.specs.inside.Covered.{AreWithin}
use Rattle.search_numbers.specs.Local.{CoversPlan, HasAll}
use Rattle.search_numbers.specs.Remembering.{IsRight}
use Rattle.search_numbers.specs.Rows.{fits}
use Rattle.search_numbers.specs.Stored.{IsWorldOf, StandsFor, covers, part_at}
use Rattle.search_numbers.specs.declared.remembered.Remembered.{Remembered}
use Rattle.search_numbers.specs.declared.store.Store.{Store}
use Rattle.search_numbers.specs.declared.touch.Touch.{Touch}
use Rattle.term_core.specs.declared.step.Step.{Step}
use Rattle.world_footprints.specs.Footprints.{IsPlan}
use Rattle.world_footprints.specs.declared.plan.Plan.{Plan}
use Rattle.world_model.specs.Asking.{program_of}
use Rattle.world_model.specs.Cells.{Alive, Contents}
use Rattle.world_model.specs.Names.{Pid}
use Rattle.world_planned.specs.Replies.{NamesMeanTables}
use Rattle.world_records.specs.Records.{Agrees, OfWorld}
use Rattle.world_records.specs.declared.records.Records.{Records}

-- what is remembered of this step is so in the world of these numbers, and in each other one that has them where it is touched
pub record IsLearned (store : Store) (numbers : ℕ → ℕ) (step : Step) (r : Remembered) : Type 0 where
  pub is_of : r.step ≡ step
  pub matches : fits r.touches.items numbers ≡ true
  pub right : IsRight store r

-- these columns are touched, and the numbers there stay
pub record AreUntouched (numbers : ℕ → ℕ) (columns : List ℕ) (touches : List Touch) : Type 0 where
  pub at : map (λ t. t.column) touches ≡ columns
  pub each : AllByRecursion (λ t. (t.before ≡ numbers t.column) × (t.after ≡ numbers t.column)) touches

-- these columns are touched, and there stands what these records have
pub record AreTouched (store : Store) (numbers : ℕ → ℕ) (left : Records) (columns : List ℕ) (touches : List Touch) : Type 0 where
  pub at : map (λ t. t.column) touches ≡ columns
  pub each : AllByRecursion (λ t. (t.before ≡ numbers t.column) × (t.after ≤ length store.parts.items) × StandsFor store t.column left t.after) touches

-- in the world of these numbers a process does not live
pub record IsDeadIn (store : Store) (numbers : ℕ → ℕ) (p : Pid) : Type 0 where
  pub world : IsWorldOf store numbers
  pub dead : (m : ModuleTree) (v : Contents) → HasAll m (part_at store numbers) v → v (Alive p) ≡ false

-- a plan for the records of the world of these numbers, and the columns of all that it touches
pub record IsPlannedIn (store : Store) (numbers : ℕ → ℕ) (records : Records) (p : Plan) (columns : List ℕ) : Type 0 where
  pub world : IsWorldOf store numbers
  pub agrees : (m : ModuleTree) (v : Contents) → HasAll m (part_at store numbers) v → Agrees m records v
  pub plan : OfWorld records (λ m v. NamesMeanTables v → IsPlan (program_of m) v p)
  pub covers : CoversPlan (covers store.places.items columns) p
  pub within : AreWithin store columns
