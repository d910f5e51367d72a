use Rattle.term_core.specs.inside.StepOrderLaws.{same_schedule, schedules_total}
use Rattle.term_core.proofs.order.steps.schedules_are_ordered.Goals as goal

pub returns-clause-total : goal.returns-clause-total
returns-clause-total c = schedules_total

pub returns-clause-same : goal.returns-clause-same
returns-clause-same c = same_schedule
