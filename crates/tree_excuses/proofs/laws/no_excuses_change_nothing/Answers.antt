use Rattle.tree_excuses.proofs.Judged.{nothing_changes}
use Rattle.tree_excuses.proofs.laws.no_excuses_change_nothing.Goals as goal

pub returns : goal.returns
returns c = nothing_changes
