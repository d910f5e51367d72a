use Rattle.tree_levels.proofs.Taken.{can_be_taken}
use Rattle.tree_levels.proofs.laws.jobs_can_be_taken.Goals as goal

pub returns : goal.returns
returns c = can_be_taken
