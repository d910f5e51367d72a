use Rattle.tree_levels.proofs.LevelLaws.{are_nodes}
use Rattle.tree_levels.proofs.laws.jobs_are_nodes.Goals as goal

pub returns : goal.returns
returns c = are_nodes
