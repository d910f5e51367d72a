use Rattle.world_model.proofs.Histories.{independent_commute}
use Rattle.world_model.proofs.laws.commuting.independent_steps_commute.Goals as goal

pub returns : goal.returns
returns c = independent_commute
