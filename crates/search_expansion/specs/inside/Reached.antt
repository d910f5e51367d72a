-- Worlds that schedules reach.
use Rattle.std.specs.Prelude.{◌≡◌, List, Some, false}
use Rattle.term_core.specs.declared.step.Step.{Step}
use Rattle.world_core.specs.Seen.{Seen, program_in}
use Rattle.world_model.specs.Requests.{Program}
use Rattle.world_model.specs.Run.{run}

-- a world of the program after the schedule
pub record IsAt (a : Program) (s : List Step) (w : Seen) : Type 0 where
  pub program : program_in w ≡ a
  pub lives : w.spent ≡ false
  pub runs : run a s ≡ Some w.history
