-- What whole random schedules show.
use Rattle.std.specs.List.{AllByRecursion}
use Rattle.std.specs.Prelude.{◌≡◌, ◌≤◌, ◌⊎◌, ◌↔◌, ℕ, true, List, [], ◌++◌, Some, length}
use Rattle.term_core.specs.declared.step.Step.{Step}
use Rattle.tree_coverage.specs.Findings.{Finding, Findings, findings_among}
use Rattle.tree_coverage.specs.Shown.{RunShows}
use Rattle.tree_schedules.specs.Deliveries.{DeliversBy, steps_by}
use Rattle.tree_schedules.specs.declared.delivery.Delivery.{Delivery}
use Rattle.world_model.specs.Events.{History}
use Rattle.world_model.specs.Names.{IsAmong}
use Rattle.world_model.specs.Requests.{Program}
use Rattle.world_model.specs.Run.{run}
use Rattle.world_model.specs.Shown.{Flags, is_error, is_refusal}

-- it delivers signals so and runs, and is a whole one: it has so many steps, or fewer and no step may be taken after it
pub record IsWhole (d : Delivery) (a : Program) (n : ℕ) (s : List Step) : Type 0 where
  pub delivers : DeliversBy d a s
  pub history : History
  pub runs : run a s ≡ Some history
  pub whole : (length s ≡ n) ⊎ ((length s ≤ n) × (steps_by d a history ≡ []))

-- a schedule begins another one
abbrev pub Begins : List Step → List Step → Type 0
Begins s whole = (rest : List Step) × (whole ≡ s ++ rest)

-- it begins one of these
abbrev pub BeginsSome : List (List Step) → List Step → Type 0
BeginsSome wholes s = (whole : List Step) × IsAmong whole wholes × Begins s whole

-- these are what so many whole schedules show, each from its beginning to its end
pub record AreOfSamples (flags : Flags) (d : Delivery) (a : Program) (n runs : ℕ) (findings : Findings) : Type 0 where
  pub wholes : List (List Step)
  pub as_many : length wholes ≡ runs
  pub are_whole : AllByRecursion (IsWhole d a n) wholes
  pub visited : List (List Step)
  pub beginnings : (s : List Step) → IsAmong s visited ↔ BeginsSome wholes s
  pub found : findings ≡ findings_among flags a visited

-- the schedule beside a finding has at most so many steps, delivers signals so, and shows it
pub record IsShownBeside (d : Delivery) (a : Program) (n : ℕ) (f : Finding) : Type 0 where
  pub short : length f.schedule ≤ n
  pub delivers : DeliversBy d a f.schedule
  pub shows : RunShows a f.schedule f.identity

-- what is found so is shown: each error by the schedule beside it, and each refusal
abbrev pub SamplesAreShown : Type 0
SamplesAreShown = (flags : Flags) (d : Delivery) (a : Program) (n runs : ℕ) (findings : Findings) → AreOfSamples flags d a n runs findings →
    ((f : Finding) → IsAmong f findings.errors → (is_error flags f.identity ≡ true) × IsShownBeside d a n f)
    × ((f : Finding) → IsAmong f findings.refusals → (is_refusal f.identity ≡ true) × IsShownBeside d a n f)
