use Rattle.tree_levels.proofs.LevelLaws.{above_and_below, nodes_below}
use Rattle.tree_levels.proofs.Sums.{findings_above_and_below, counts_above_and_below, cuts_below, findings_below, counts_below}
use Rattle.tree_levels.proofs.laws.nodes_are_above_and_below.Goals as goal

pub returns-clause-nodes : goal.returns-clause-nodes
returns-clause-nodes c = above_and_below

pub returns-clause-findings : goal.returns-clause-findings
returns-clause-findings c = findings_above_and_below

pub returns-clause-counts : goal.returns-clause-counts
returns-clause-counts c = counts_above_and_below

pub returns-clause-cuts : goal.returns-clause-cuts
returns-clause-cuts c = cuts_below

pub returns-clause-all : goal.returns-clause-all
returns-clause-all c = nodes_below

pub returns-clause-all_findings : goal.returns-clause-all_findings
returns-clause-all_findings c = findings_below

pub returns-clause-all_counts : goal.returns-clause-all_counts
returns-clause-all_counts c = counts_below
