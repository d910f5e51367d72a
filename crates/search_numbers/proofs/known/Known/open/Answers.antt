use Rattle.search_numbers.proofs.Beginning.{opened_are, opened_world}
use Rattle.search_numbers.proofs.known.Known.open.Goals as goal

pub returns-clause-are : goal.returns-clause-are
returns-clause-are c = opened_are _ _ c.in_ok-open.ensures.module c.in_ok-open.ensures.whole

pub returns-clause-world : goal.returns-clause-world
returns-clause-world c = opened_world _ _ c.in_ok-open.ensures.module c.in_ok-open.ensures.whole
