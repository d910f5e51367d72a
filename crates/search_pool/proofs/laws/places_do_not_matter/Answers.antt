use Rattle.search_pool.proofs.Jobs.{same_findings, same_nodes}
use Rattle.search_pool.proofs.laws.places_do_not_matter.Goals as goal

pub returns-clause-nodes : goal.returns-clause-nodes
returns-clause-nodes c = same_nodes

pub returns-clause-findings : goal.returns-clause-findings
returns-clause-findings c = same_findings
