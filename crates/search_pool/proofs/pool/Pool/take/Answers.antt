use Rattle.search_pool.proofs.Handing.{of_its_ticket}
use Rattle.search_pool.proofs.pool.Pool.take.Goals as goal

pub returns-clause-of_ticket : goal.returns-clause-of_ticket
returns-clause-of_ticket g c = of_its_ticket _ _ c.take-taken.result c.take-taken.ensures.taken
