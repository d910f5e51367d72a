use Rattle.tree_cuts.proofs.CutLaws.{cuts_in_any_order, cuts_join, cuts_of_root, cuts_of_jobs, cuts_some}
use Rattle.tree_cuts.proofs.laws.cuts_add_up.Goals as goal

pub returns-clause-schedules : goal.returns-clause-schedules
returns-clause-schedules c = cuts_join

pub returns-clause-some : goal.returns-clause-some
returns-clause-some c = cuts_some

pub returns-clause-order : goal.returns-clause-order
returns-clause-order c = cuts_in_any_order

pub returns-clause-root : goal.returns-clause-root
returns-clause-root c = cuts_of_root

pub returns-clause-jobs : goal.returns-clause-jobs
returns-clause-jobs c = cuts_of_jobs
