use Rattle.tree_cuts.proofs.CutLaws.{trees_whole, roots_whole, findings_whole}
use Rattle.tree_cuts.proofs.laws.uncut_trees_are_whole.Goals as goal

pub returns-clause-schedules : goal.returns-clause-schedules
returns-clause-schedules c = trees_whole

pub returns-clause-nodes : goal.returns-clause-nodes
returns-clause-nodes c = roots_whole

pub returns-clause-findings : goal.returns-clause-findings
returns-clause-findings c = findings_whole
