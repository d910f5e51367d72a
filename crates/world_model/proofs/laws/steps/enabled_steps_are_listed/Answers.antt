use Rattle.world_model.proofs.Opened.{enabled_listed, listed_enabled, listed_in_order}
use Rattle.world_model.proofs.laws.steps.enabled_steps_are_listed.Goals as goal

pub returns-clause-all : goal.returns-clause-all
returns-clause-all c = enabled_listed

pub returns-clause-only : goal.returns-clause-only
returns-clause-only c = listed_enabled

pub returns-clause-order : goal.returns-clause-order
returns-clause-order c = listed_in_order
