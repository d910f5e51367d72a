use Rattle.world_model.proofs.Lives.{alive_told}
use Rattle.world_model.proofs.laws.processes.lives_are_told.Goals as goal

pub returns : goal.returns
returns c = alive_told
