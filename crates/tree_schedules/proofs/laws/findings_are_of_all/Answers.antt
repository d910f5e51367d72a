use Rattle.tree_schedules.proofs.Least.{errors_of_all, refusals_of_all, errors_least, refusals_least, trees_same, prompt_among_all}
use Rattle.tree_schedules.proofs.laws.findings_are_of_all.Goals as goal

pub returns-clause-errors : goal.returns-clause-errors
returns-clause-errors c = errors_of_all

pub returns-clause-refusals : goal.returns-clause-refusals
returns-clause-refusals c = refusals_of_all

pub returns-clause-least_errors : goal.returns-clause-least_errors
returns-clause-least_errors c = errors_least

pub returns-clause-least_refusals : goal.returns-clause-least_refusals
returns-clause-least_refusals c = refusals_least

pub returns-clause-trees : goal.returns-clause-trees
returns-clause-trees c = trees_same

pub returns-clause-prompt : goal.returns-clause-prompt
returns-clause-prompt c = prompt_among_all
