use Rattle.tree_coverage.proofs.FindingLaws.{errors_of_nodes, refusals_of_nodes}
use Rattle.tree_coverage.proofs.laws.findings_are_of_nodes.Goals as goal

pub returns-clause-errors : goal.returns-clause-errors
returns-clause-errors c = errors_of_nodes

pub returns-clause-refusals : goal.returns-clause-refusals
returns-clause-refusals c = refusals_of_nodes
