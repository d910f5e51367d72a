-- What is kept of all worlds of a search, and which world a row of numbers is.
use Rattle.std.specs.List.{AllByRecursion, list_any}
use Rattle.std.specs.Prelude.{◌≡◌, ◌≤◌, ◌<◌, ◌+◌, ◌==◌, ◌++◌, ℕ, zero, suc, Bool, false, List, Option, Some, None, if◌then◌else◌, length, map, nat_lt, slice_get}
use Rattle.std.specs.List.Sorted.{IsStrictlySortedBy}
use Rattle.term_core.specs.StepOrder.{order_of_steps}
use Rattle.core_tree.specs.Syntax.{ModuleTree}
use Rattle.search_numbers.specs.Local.{HasAll}
use Rattle.search_numbers.specs.declared.store.Part.{Part}
use Rattle.search_numbers.specs.declared.store.Store.{Store}
use Rattle.term_core.specs.declared.step.Step.{Step}
use Rattle.term_core.specs.declared.step.Step.TheVariants.{Turn, Deliver}
use Rattle.world_model.specs.Asking.{program_of}
use Rattle.world_model.specs.Cells.{Contents}
use Rattle.world_model.specs.Events.{History}
use Rattle.world_model.specs.Names.{IsAmong}
use Rattle.world_model.specs.Run.{IsRun, enabled_steps}
use Rattle.world_model.specs.World.{beginning, contents}
use Rattle.world_records.specs.Places.{AgreesAt, AreOfOne}
use Rattle.world_records.specs.Records.{Agrees}
use Rattle.world_records.specs.declared.place.Place.{Place}
use Rattle.world_records.specs.declared.place.Place.TheVariants.{Channel}
use Rattle.world_records.specs.declared.records.Records.{Records}
pub use Rattle.search_numbers.specs.Parts.{module_in, column_in, number_in, records_or, IsPart, HaveColumns, AreSomething, step_at, is_delivery, is_at_once_in, AllBegin, BeginAll, Begins, BeginsAt, EachBegins, Starts, HasMore}

-- what a number stands for: 0 for what was before anything happened
abbrev pub numbered : Store → ℕ → Records
numbered store zero = store.opening
numbered store (suc n) = records_or store.opening (slice_get store.parts.items n)

-- what is kept of each place, where a world has these numbers
abbrev pub part_at : Store → (ℕ → ℕ) → Place → Records
part_at store numbers q = numbered store (number_in numbers (column_in store.places.items q))

-- what is kept of the place of a column, where only the columns below one are read yet
abbrev pub so_far : Store → (ℕ → ℕ) → ℕ → Option ℕ → Records
so_far store numbers below None = store.opening
so_far store numbers below (Some column) = if nat_lt column below then numbered store (numbers column) else store.opening

-- records that agree at each place with all that is read of it agrees with
pub record HasSoFar (store : Store) (numbers : ℕ → ℕ) (below : ℕ) (records : Records) : Type 0 where
  pub of_one : AreOfOne records store.opening
  pub places : (m : ModuleTree) (q : Place) (v : Contents) → AgreesAt m q (so_far store numbers below (column_in store.places.items q)) v → AgreesAt m q records v

-- a store that can be read: what is kept before anything happened agrees with that, each part agrees with something at its place, each place has one column, and the steps are those that begin at the places, each with its column, and the first turn is one
pub record IsStore (store : Store) : Type 0 where
  pub opens : Agrees (module_in store.opening) store.opening beginning
  pub each : AllByRecursion (IsPart store.opening) store.parts.items
  pub columns : HaveColumns store.places.items
  pub begins : BeginAll store.places.items store.steps.entries
  pub placed : EachBegins store.places.items store.steps.entries
  pub starts : Starts store.steps.entries

-- these numbers are of what is kept, at columns that there are
abbrev pub AreKept : Store → (ℕ → ℕ) → Type 0
AreKept store numbers = (c : ℕ) → (numbers c ≤ length store.parts.items) × (length store.places.items ≤ c → numbers c ≡ 0)

-- the world of these numbers is that which a history of the module leaves
pub record AreOf (store : Store) (numbers : ℕ → ℕ) (m : ModuleTree) (h : History) : Type 0 where
  pub program : module_in store.opening ≡ m
  pub has : HasAll m (part_at store numbers) (contents h)
  pub is_run : IsRun (program_of m) h

-- such a history, where there is one
pub record HasHistory (store : Store) (numbers : ℕ → ℕ) : Type 0 where
  pub tree : ModuleTree
  pub history : History
  pub are : AreOf store numbers tree history

-- a row that can be read, as its store can: its numbers are kept, and a history leaves its world
pub record IsWorldOf (store : Store) (numbers : ℕ → ℕ) : Type 0 where
  pub whole : IsStore store
  pub kept : AreKept store numbers
  pub reached : HasHistory store numbers

-- all that was kept earlier is kept later, under the same numbers, and what could be read can be
pub record Follows (later earlier : Store) : Type 0 where
  pub opening : later.opening ≡ earlier.opening
  pub more_places : List Place
  pub places : later.places.items ≡ earlier.places.items ++ more_places
  pub more_parts : List Part
  pub parts : later.parts.items ≡ earlier.parts.items ++ more_parts
  pub whole : IsStore earlier → IsStore later

-- a number stands for what these records have at a column
abbrev pub StandsFor : Store → ℕ → Records → ℕ → Type 0
StandsFor store column records number = (q : Place) (v : Contents) → slice_get store.places.items column ≡ Some q → AgreesAt (module_in store.opening) q records v → AgreesAt (module_in store.opening) q (numbered store number) v

-- the number of the part at a place among all stands for what these records have at a place of a world
abbrev pub StandsAt : Store → Place → Records → ℕ → Type 0
StandsAt store q records at = (at < length store.parts.items) × ((v : Contents) → AgreesAt (module_in store.opening) q records v → AgreesAt (module_in store.opening) q (numbered store (at + 1)) v)

-- a delivery from a channel that is as before anything happened
abbrev pub IsIdle : List Place → (ℕ → ℕ) → Step → Type 0
IsIdle places numbers (Turn p) = ⊥
IsIdle places numbers (Deliver s r) = number_in numbers (column_in places (Channel s r)) ≡ 0

-- a step begins at the place of each of these columns; these steps are in order, and all that are enabled where a history leaves the world of these numbers are among them
pub record AreAsked (store : Store) (numbers : ℕ → ℕ) (columns : List ℕ) : Type 0 where
  pub step : ℕ → Step
  pub begin : AllBegin store.places.items step columns
  pub in_order : IsStrictlySortedBy order_of_steps (map step columns)
  pub all : (later : Store) (m : ModuleTree) (h : History) → Follows later store → AreKept store numbers → AreOf later numbers m h → (s : Step) → IsAmong s (enabled_steps (program_of m) h) → IsAmong s (map step columns)

-- the places of a list of columns
abbrev pub is_among : Option ℕ → List ℕ → Bool
is_among None columns = false
is_among (Some c) columns = list_any (λ d. c == d) columns

abbrev pub covers : List Place → List ℕ → Place → Bool
covers places columns q = is_among (column_in places q) columns
