-- What several steps in a row result in.
use Rattle.std.specs.Prelude.{◌≡◌, ◌+◌, ◌≤◌, ℕ, List, take, length, true, false, Result, Ok, Err, Some, None}
use Rattle.term_core.specs.declared.step.Step.{Step}
use Rattle.world_model.specs.Events.{History}
use Rattle.world_model.specs.Requests.{Program}
use Rattle.world_model.specs.Run.{run_from}
use Rattle.world_core.specs.Seen.{Seen, program_in}
use Rattle.world_core.specs.declared.fault.WorldFault.{WorldFault}
use Rattle.world_core.specs.declared.fault.WorldFault.TheVariants.{NotEnabled, Memory}

-- the steps run on from one history to another
abbrev pub RunsTo : Program → History → List Step → History → Type 0
RunsTo a h steps g = run_from a (Some h) steps ≡ Some g

-- the step of this place, counted from 1, is the first that is not enabled, and those before it lead to a history
pub record StopsAt (a : Program) (h : History) (steps : List Step) (place : ℕ) (g : History) : Type 0 where
  pub before : ℕ
  pub counted : place ≡ before + 1
  pub runs : RunsTo a h (take before steps) g
  pub ends : run_from a (Some h) (take (before + 1) steps) ≡ None

-- the steps before this place, counted from 1, lead to a history; a step has this place, unless memory ran out before
pub record StandsBefore (old : Seen) (steps : List Step) (place : ℕ) (g : History) : Type 0 where
  pub before : ℕ
  pub counted : place ≡ before + 1
  pub within : old.spent ≡ false → place ≤ length steps
  pub runs : RunsTo (program_in old) old.history (take before steps) g

-- the step of this place is not enabled, or memory ran out there
abbrev pub IsStopped : Seen → List Step → ℕ → WorldFault → Seen → Type 0
IsStopped old steps place NotEnabled new = StopsAt (program_in old) old.history steps place new.history × (new.spent ≡ false)
IsStopped old steps place Memory new = StandsBefore old steps place new.history × (new.spent ≡ true)

-- a world took all the steps, or stopped
abbrev pub Advances : Seen → List Step → Result (Unit {0}) (ℕ × WorldFault) → Seen → Type 0
Advances old steps (Ok done) new = RunsTo (program_in old) old.history steps new.history × (new.spent ≡ false)
Advances old steps (Err fault) new = IsStopped old steps fault.0 fault.1 new
