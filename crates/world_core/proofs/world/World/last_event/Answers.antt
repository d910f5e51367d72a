use Rattle.std.proofs.Common.{◌≡◌, Some, ap, subst, ◌∙◌}
use Rattle.world_core.specs.Seen.{Seen, program_in}
use Rattle.world_model.specs.Asking.{program_of}
use Rattle.world_model.specs.Run.{run, schedule_of}
use Rattle.world_model.proofs.Runs.{run_is}
use Rattle.world_core.specs.Shared.{events_in}
use Rattle.world_core.proofs.world.World.last_event.Goals as goal

pub returns-clause-is_run : goal.returns-clause-is_run
returns-clause-is_run c = λ sound.
    subst (λ (s : Seen). run (program_in s) (schedule_of s.history) ≡ Some s.history) c.self.view_is
    (run_is (program_of c.self.inside.program.now) (events_in c.self.inside.events) (c.self.invariant (ap (λ (s : Seen). s.spent) c.self.view_is ∙ sound)).is_run)
