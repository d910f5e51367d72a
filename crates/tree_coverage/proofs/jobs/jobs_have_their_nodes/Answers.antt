use Rattle.tree_coverage.proofs.JobLaws.{root_nodes, jobs_split}
use Rattle.tree_coverage.proofs.jobs.jobs_have_their_nodes.Goals as goal

pub returns-clause-root : goal.returns-clause-root
returns-clause-root c = root_nodes

pub returns-clause-split : goal.returns-clause-split
returns-clause-split c = jobs_split
