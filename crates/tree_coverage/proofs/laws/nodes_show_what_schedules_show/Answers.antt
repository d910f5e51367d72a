use Rattle.tree_coverage.proofs.ShownLaws.{nodes_show}
use Rattle.tree_coverage.proofs.laws.nodes_show_what_schedules_show.Goals as goal

pub returns : goal.returns
returns c = nodes_show
