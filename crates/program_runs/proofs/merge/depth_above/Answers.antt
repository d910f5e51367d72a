use Rattle.program_runs.proofs.MergeLaws.{above_is}
use Rattle.program_runs.proofs.merge.depth_above.Goals as goal

pub returns : goal.returns
returns c = above_is c.args.at c.checked_sub.result c.checked_sub.ensures
