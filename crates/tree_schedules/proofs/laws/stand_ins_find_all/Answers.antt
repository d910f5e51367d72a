use Rattle.tree_schedules.proofs.Least.{stand_ins}
use Rattle.tree_schedules.proofs.laws.stand_ins_find_all.Goals as goal

pub returns : goal.returns
returns c = stand_ins
