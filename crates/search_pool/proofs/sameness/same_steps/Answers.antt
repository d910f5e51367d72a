use Rattle.search_pool.proofs.Compared.{are_other, are_same}
use Rattle.search_pool.proofs.sameness.same_steps.Goals as goal

pub returns-clause-yes : goal.returns-clause-yes
returns-clause-yes c = are_same c.args.a.now c.args.b.now c.compare_schedules.result c.is_eq.result c.compare_schedules.ensures c.is_eq.ensures

pub returns-clause-no : goal.returns-clause-no
returns-clause-no c = are_other c.args.a.now c.args.b.now c.compare_schedules.result c.is_eq.result c.compare_schedules.ensures c.is_eq.ensures
