use Rattle.tree_levels.proofs.Sums.{shows_all, counts_all, shows_in_any_order, counts_in_any_order}
use Rattle.tree_levels.proofs.laws.jobs_add_up.Goals as goal

pub returns-clause-findings : goal.returns-clause-findings
returns-clause-findings c = shows_all

pub returns-clause-counts : goal.returns-clause-counts
returns-clause-counts c = counts_all

pub returns-clause-findings_in_order : goal.returns-clause-findings_in_order
returns-clause-findings_in_order c = shows_in_any_order

pub returns-clause-counts_in_order : goal.returns-clause-counts_in_order
returns-clause-counts_in_order c = counts_in_any_order
