use Rattle.report_reader.proofs.MergeLaws.{grouping_does_not_matter, merged_are_lawful, order_does_not_matter}
use Rattle.report_reader.proofs.merging.outcomes_are_put_together.Goals as goal

pub returns-clause-lawful : goal.returns-clause-lawful
returns-clause-lawful c = merged_are_lawful

pub returns-clause-order : goal.returns-clause-order
returns-clause-order c = order_does_not_matter

pub returns-clause-grouping : goal.returns-clause-grouping
returns-clause-grouping c = grouping_does_not_matter
