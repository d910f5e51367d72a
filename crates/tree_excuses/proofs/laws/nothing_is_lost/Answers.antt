use Rattle.tree_excuses.proofs.Judged.{nothing_lost}
use Rattle.tree_excuses.proofs.laws.nothing_is_lost.Goals as goal

pub returns : goal.returns
returns c = nothing_lost
