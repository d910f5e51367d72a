use Rattle.world_model.proofs.Lives.{traps_told}
use Rattle.world_model.proofs.laws.processes.flags_are_told.Goals as goal

pub returns : goal.returns
returns c = traps_told
