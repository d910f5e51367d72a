-- What is kept of the places of worlds: their columns, what each part agrees with, and the steps that begin at places.
use Rattle.std.specs.List.{AllByRecursion}
use Rattle.std.specs.Map.{keys_of}
use Rattle.std.specs.Prelude.{◌≡◌, ℕ, Bool, true, false, List, [], Option, Some, None, position, slice_get}
use Rattle.core_tree.specs.Syntax.{ModuleTree}
use Rattle.proc_machines.specs.Processes.{module_of}
use Rattle.proc_signals.specs.Channels.{between}
use Rattle.search_numbers.specs.declared.store.Part.{Part}
use Rattle.term_core.specs.declared.step.Step.{Step}
use Rattle.term_core.specs.declared.step.Step.TheVariants.{Turn, Deliver}
use Rattle.tree_schedules.specs.Deliveries.{arrives_at_once}
use Rattle.world_model.specs.Cells.{Contents}
use Rattle.world_model.specs.Names.{IsAmong}
use Rattle.world_model.specs.Signals.{first_of}
use Rattle.world_records.specs.Places.{AgreesAt, AreOfOne, same_place}
use Rattle.world_records.specs.Records.{Agrees, channels_of, processes_of}
use Rattle.world_records.specs.declared.place.Place.{Place}
use Rattle.world_records.specs.declared.place.Place.TheVariants.{Course, Channel}
use Rattle.world_records.specs.declared.records.Records.{Records}

-- the module whose worlds they are
abbrev pub module_in : Records → ModuleTree
module_in opening = module_of (processes_of opening)

-- the column of a place, if it has one
abbrev pub column_in : List Place → Place → Option ℕ
column_in places q = position (same_place q) places

-- the number at the column of a place; 0 where it has none
abbrev pub number_in : (ℕ → ℕ) → Option ℕ → ℕ
number_in numbers None = 0
number_in numbers (Some column) = numbers column

abbrev pub records_or : Records → Option Part → Records
records_or opening None = opening
records_or opening (Some part) = part.records.value

-- ---- what holds of a store

-- a part agrees with something at its place
pub record IsPart (opening : Records) (part : Part) : Type 0 where
  pub of_one : AreOfOne part.records.value opening
  pub contents : Contents
  pub agrees : AgreesAt (module_in opening) part.place part.records.value contents

-- each place has one column
abbrev pub HaveColumns : List Place → Type 0
HaveColumns places = (c : ℕ) (q : Place) → slice_get places c ≡ Some q → column_in places q ≡ Some c

-- records that agree with something
pub record AreSomething (opening records : Records) : Type 0 where
  pub contents : Contents
  pub agrees : Agrees (module_in opening) records contents

-- ---- steps by their places

-- the step that begins at a place, if one does: the turn of a process, or the delivery of a channel
abbrev pub step_at : Place → Option Step
step_at (Course p) = Some (Turn p)
step_at (Channel s r) = Some (Deliver s r)
step_at place = None

abbrev pub is_delivery : Step → Bool
is_delivery (Turn p) = false
is_delivery (Deliver s r) = true

-- whether a step delivers a signal that arrives at once, by what is kept of its channel
abbrev pub is_at_once_in : Records → Step → Bool
is_at_once_in records (Turn p) = false
is_at_once_in records (Deliver s r) = arrives_at_once (first_of (between (channels_of records) s r))

-- each step that begins at a place is among these
abbrev pub BeginAll : List Place → List (Step × ℕ) → Type 0
BeginAll places steps = (c : ℕ) (q : Place) (s : Step) → slice_get places c ≡ Some q → step_at q ≡ Some s → IsAmong s (keys_of steps)

-- a step begins at the place of a column
pub record BeginsAt (places : List Place) (column : ℕ) (step : Step) : Type 0 where
  pub place : Place
  pub there : slice_get places column ≡ Some place
  pub begins : step_at place ≡ Some step

-- some step begins at the place of a column
pub record Begins (places : List Place) (column : ℕ) : Type 0 where
  pub step : Step
  pub begins : BeginsAt places column step

-- each of these steps begins at the place of its column
abbrev pub EachBegins : List Place → List (Step × ℕ) → Type 0
EachBegins places steps = AllByRecursion (λ e. BeginsAt places e.1 e.0) steps

-- a step begins at the place of each of these columns
abbrev pub AllBegin : List Place → (ℕ → Step) → List ℕ → Type 0
AllBegin places step columns = AllByRecursion (λ c. BeginsAt places c (step c)) columns

-- the turn of the first process is among these
abbrev pub Starts : List (Step × ℕ) → Type 0
Starts steps = IsAmong (Turn []) (keys_of steps)

-- steps that are among some are among others
abbrev pub HasMore : List Step → List Step → Type 0
HasMore old new = (s : Step) → IsAmong s old → IsAmong s new
