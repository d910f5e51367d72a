use Rattle.tree_schedules.proofs.Listed.{all_listed}
use Rattle.tree_schedules.proofs.laws.schedules_are_listed.Goals as goal

pub returns : goal.returns
returns c = all_listed
