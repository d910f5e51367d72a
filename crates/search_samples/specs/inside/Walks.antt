-- How whole schedules are followed, step by step and one after the other.
use Rattle.std.specs.List.{filter}
use Rattle.std.specs.Prelude.{◌≡◌, ◌≤◌, ◌↔◌, ◌⊎◌, ◌+◌, ℕ, List, [], ◌++◌, Some, length}
use Rattle.search_samples.specs.Samples.{AreOfSamples, Begins}
use Rattle.term_core.specs.declared.step.Step.{Step}
use Rattle.tree_coverage.specs.Findings.{Findings, findings_among}
use Rattle.tree_schedules.specs.Deliveries.{DeliversBy, first_or_all, is_at_once, steps_by}
use Rattle.tree_schedules.specs.declared.delivery.Delivery.{Delivery}
use Rattle.tree_schedules.specs.declared.delivery.Delivery.TheVariants.{AnyTime, AtOnce}
use Rattle.world_model.specs.Events.{History}
use Rattle.world_model.specs.Names.{IsAmong}
use Rattle.world_model.specs.Requests.{Program}
use Rattle.world_model.specs.Run.{run}
use Rattle.world_model.specs.Shown.{Flags}

-- those of the enabled steps that may be taken after a history
abbrev pub allowed : Delivery → History → List Step → List Step
allowed AnyTime h steps = steps
allowed AtOnce h steps = first_or_all (filter (is_at_once h) steps) steps

-- a schedule was followed to here, and what each beginning of it shows was added to what had been found
pub record IsFollowed (flags : Flags) (d : Delivery) (a : Program) (s : List Step) (h : History) (old new : Findings) : Type 0 where
  pub delivers : DeliversBy d a s
  pub runs : run a s ≡ Some h
  pub visited : List (List Step)
  pub beginnings : (t : List Step) → IsAmong t visited ↔ Begins t s
  pub found : (before : List (List Step)) → old ≡ findings_among flags a before → new ≡ findings_among flags a (before ++ visited)

-- a schedule of so many steps is over: it may have no more, or no step may be taken
abbrev pub IsOver : Delivery → Program → ℕ → List Step → History → Type 0
IsOver d a n s h = (length s ≡ n) ⊎ ((length s ≤ n) × (steps_by d a h ≡ []))

-- what one more whole schedule shows, from its beginning to its end, was added
abbrev pub AddsOne : Flags → Delivery → Program → ℕ → Findings → Findings → Type 0
AddsOne flags d a n old new = (runs : ℕ) → AreOfSamples flags d a n runs old → AreOfSamples flags d a n (runs + 1) new
