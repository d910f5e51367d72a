use Rattle.search_expansion.proofs.Stepping.{done}
use Rattle.search_expansion.proofs.node.stepped.Goals as goal

pub returns : goal.returns
returns c = λ m h e world plan next. done m h e c.args.plan.now c.args.records c.perform.new.records world plan next c.in_ok-perform.ensures
