use Rattle.tree_cuts.proofs.CutLaws.{cuts_exact, nodes_tell}
use Rattle.tree_cuts.proofs.laws.cuts_are_exact.Goals as goal

pub returns-clause-lengths : goal.returns-clause-lengths
returns-clause-lengths c = cuts_exact

pub returns-clause-nodes : goal.returns-clause-nodes
returns-clause-nodes c = nodes_tell
