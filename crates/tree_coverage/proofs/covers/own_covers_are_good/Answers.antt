use Rattle.tree_coverage.proofs.OwnCovers.{own_good}
use Rattle.tree_coverage.proofs.covers.own_covers_are_good.Goals as goal

pub returns : goal.returns
returns c = own_good
