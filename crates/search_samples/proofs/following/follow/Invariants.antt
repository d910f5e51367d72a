use Rattle.std.proofs.Common.{◌≡◌, ◌≤◌, ◌-◌, false, length}
use Rattle.search_samples.specs.inside.Walks.{IsFollowed}
use Rattle.world_identities.specs.Identities.{flags_in}
use Rattle.world_model.specs.Asking.{program_of}
use Rattle.world_model.specs.Run.{enabled_steps}
use Rattle.search_samples.proofs.following.follow.Given as goal

-- the schedule was followed to here, and these steps are enabled
abbrev pub invariant-steps : goal.invariant-steps
invariant-steps l = record {
  followed : IsFollowed (flags_in l.fn.samples.flags) l.fn.samples.delivery (program_of l.fn.program) l.schedule.items l.world.history l.fn.findings l.findings;
  program : l.world.program ≡ l.fn.program;
  lives : l.world.spent ≡ false;
  enabled : l.enabled.items ≡ enabled_steps (program_of l.fn.program) l.world.history;
  short : length l.schedule.items ≤ l.fn.samples.depth;
}

abbrev pub decreases-steps : goal.decreases-steps
decreases-steps l = l.fn.samples.depth - length l.schedule.items
