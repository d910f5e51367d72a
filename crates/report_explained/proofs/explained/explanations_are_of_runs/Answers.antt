use Rattle.report_explained.proofs.RunLaws.{explained_runs}
use Rattle.report_explained.proofs.explained.explanations_are_of_runs.Goals as goal

pub returns : goal.returns
returns c = explained_runs
