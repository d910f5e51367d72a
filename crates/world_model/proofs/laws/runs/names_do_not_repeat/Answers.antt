use Rattle.world_model.proofs.Fresh.{names_new}
use Rattle.world_model.proofs.laws.runs.names_do_not_repeat.Goals as goal

pub returns : goal.returns
returns c = names_new
