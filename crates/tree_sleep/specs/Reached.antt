-- Worlds of which it is determined what sleeps.
use Rattle.std.specs.Prelude.{◌≡◌, false}
use Rattle.world_core.specs.Seen.{Seen, program_in}
use Rattle.world_model.specs.Run.{IsRun}

-- a live world of what really happened
pub record IsReached (w : Seen) : Type 0 where
  pub lives : w.spent ≡ false
  pub is_run : IsRun (program_in w) w.history
