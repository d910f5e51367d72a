use Rattle.tree_cuts.proofs.CutLaws.{errors_ever, refusals_ever, none_ever}
use Rattle.tree_cuts.proofs.laws.uncut_findings_are_exact.Goals as goal

pub returns-clause-errors : goal.returns-clause-errors
returns-clause-errors c = errors_ever

pub returns-clause-refusals : goal.returns-clause-refusals
returns-clause-refusals c = refusals_ever

pub returns-clause-none : goal.returns-clause-none
returns-clause-none c = none_ever
