use Rattle.tree_coverage.proofs.CoverLaws.{covers_clean}
use Rattle.tree_coverage.proofs.covers.covers_show_no_error.Goals as goal

pub returns : goal.returns
returns c = covers_clean
