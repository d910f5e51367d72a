-- Lists of schedules that stand for all of at most so many steps.
use Rattle.std.specs.Ordering.{is_gt}
use Rattle.std.specs.Prelude.{◌≡◌, ◌≤◌, ℕ, false, List, length, Some}
use Rattle.term_core.specs.StepOrder.{order_of_schedules}
use Rattle.term_core.specs.declared.step.Step.{Step}
use Rattle.tree_coverage.specs.Findings.{findings_among}
use Rattle.tree_schedules.specs.Deliveries.{DeliversBy}
use Rattle.tree_schedules.specs.Schedules.{IsRunBy, findings_of_all}
use Rattle.tree_schedules.specs.declared.delivery.Delivery.{Delivery}
use Rattle.world_model.specs.Events.{History}
use Rattle.world_model.specs.Names.{IsAmong}
use Rattle.world_model.specs.Requests.{Program}
use Rattle.world_model.specs.Run.{run}
use Rattle.world_model.specs.Shown.{Flags, shown}

-- a schedule does not come after another
abbrev pub IsUpTo : List Step → List Step → Type 0
IsUpTo r s = is_gt (order_of_schedules r s) ≡ false

-- one of these schedules shows what a history of another shows, and does not come after it
pub record HasStandIn (a : Program) (visited : List (List Step)) (s : List Step) (h : History) : Type 0 where
  pub by : List Step
  pub is_among : IsAmong by visited
  pub history : History
  pub runs : run a by ≡ Some history
  pub same : shown a history ≡ shown a h
  pub up_to : IsUpTo by s

-- each of these schedules has at most so many steps, delivers signals then, and runs
abbrev pub AreRuns : Delivery → Program → ℕ → List (List Step) → Type 0
AreRuns d a n visited = (s : List Step) → IsAmong s visited → IsRunBy d a n s

-- these schedules stand for all of at most so many steps
pub record StandForAll (d : Delivery) (a : Program) (n : ℕ) (visited : List (List Step)) : Type 0 where
  pub runs : AreRuns d a n visited
  pub stand : (s : List Step) (h : History) → length s ≤ n → DeliversBy d a s → run a s ≡ Some h → HasStandIn a visited s h

-- what is found among them is what is found among all
abbrev pub StandInsFindAll : Type 0
StandInsFindAll = (flags : Flags) (d : Delivery) (a : Program) (n : ℕ) (visited : List (List Step)) → StandForAll d a n visited → findings_among flags a visited ≡ findings_of_all flags d a n
