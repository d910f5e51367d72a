use Rattle.tree_findings.proofs.Schedules.{one_more, lists_merged, any_order, any_grouping}
use Rattle.tree_findings.proofs.laws.findings_are_added_up.Goals as goal

pub returns-clause-one : goal.returns-clause-one
returns-clause-one c = one_more

pub returns-clause-lists : goal.returns-clause-lists
returns-clause-lists c = lists_merged

pub returns-clause-order : goal.returns-clause-order
returns-clause-order c = any_order

pub returns-clause-grouping : goal.returns-clause-grouping
returns-clause-grouping c = any_grouping
