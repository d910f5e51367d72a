use Rattle.tree_coverage.proofs.FindingLaws.{findings_sorted, errors_exact, refusals_exact}
use Rattle.tree_coverage.proofs.laws.findings_are_exact.Goals as goal

pub returns-clause-order : goal.returns-clause-order
returns-clause-order c = findings_sorted

pub returns-clause-errors : goal.returns-clause-errors
returns-clause-errors c = errors_exact

pub returns-clause-refusals : goal.returns-clause-refusals
returns-clause-refusals c = refusals_exact
