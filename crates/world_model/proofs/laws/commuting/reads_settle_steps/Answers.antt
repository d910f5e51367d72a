use Rattle.world_model.proofs.Histories.{reads_settle}
use Rattle.world_model.proofs.laws.commuting.reads_settle_steps.Goals as goal

pub returns : goal.returns
returns c = reads_settle
