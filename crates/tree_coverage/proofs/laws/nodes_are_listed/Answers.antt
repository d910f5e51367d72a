use Rattle.tree_coverage.proofs.ShownLaws.{nodes_run, nodes_in_order, nodes_cover}
use Rattle.tree_coverage.proofs.laws.nodes_are_listed.Goals as goal

pub returns-clause-runs : goal.returns-clause-runs
returns-clause-runs c = nodes_run

pub returns-clause-order : goal.returns-clause-order
returns-clause-order c = nodes_in_order

pub returns-clause-cover : goal.returns-clause-cover
returns-clause-cover c = nodes_cover
