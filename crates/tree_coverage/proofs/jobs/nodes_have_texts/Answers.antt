use Rattle.tree_coverage.proofs.NodeTexts.{nodes_have_texts}
use Rattle.tree_coverage.proofs.jobs.nodes_have_texts.Goals as goal

pub returns : goal.returns
returns c = nodes_have_texts
