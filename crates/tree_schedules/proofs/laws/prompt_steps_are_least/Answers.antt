use Rattle.tree_schedules.proofs.Prompt.{prompt_least}
use Rattle.tree_schedules.proofs.laws.prompt_steps_are_least.Goals as goal

pub returns : goal.returns
returns c = prompt_least
