use Rattle.search_pool.proofs.Handing.{hands_back}
use Rattle.search_pool.proofs.pool.Pool.give.Goals as goal

pub returns-in_default-clause-back : goal.returns-in_default-clause-back
returns-in_default-clause-back g c = hands_back _ _ _ _ c.give-given.result c.give-given.ensures.refused
