use Rattle.std.proofs.Common.{[]}
use Rattle.world_replay.proofs.StopLaws.{whole_on, stops_at}
use Rattle.world_replay.proofs.replay.replays_are_runs.Goals as goal

pub returns-clause-whole : goal.returns-clause-whole
returns-clause-whole c = λ m steps. whole_on m [] 1 steps

pub returns-clause-part : goal.returns-clause-part
returns-clause-part c = stops_at
