use Rattle.world_pids.proofs.Numbered.{living_numbered, steps_numbered, schedules_numbered}
use Rattle.world_pids.proofs.laws.pids_have_numbers_of_turns.Goals as goal

pub returns-clause-living : goal.returns-clause-living
returns-clause-living c = living_numbered

pub returns-clause-enabled : goal.returns-clause-enabled
returns-clause-enabled c = steps_numbered

pub returns-clause-schedules : goal.returns-clause-schedules
returns-clause-schedules c = schedules_numbered
