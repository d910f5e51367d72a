use Rattle.tree_excuses.proofs.Judged.{judged_all, judged_to}
use Rattle.tree_excuses.proofs.laws.judged_are_exact.Goals as goal

pub returns-clause-bounded : goal.returns-clause-bounded
returns-clause-bounded c = judged_to

pub returns-clause-all : goal.returns-clause-all
returns-clause-all c = judged_all
