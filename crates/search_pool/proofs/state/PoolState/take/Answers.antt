use Rattle.search_pool.proofs.Handing.{is_of_program}
use Rattle.search_pool.proofs.state.PoolState.take.Goals as goal

pub returns-clause-explored : goal.returns-clause-explored
returns-clause-explored g c =
    is_of_program g.N.PoolName.program c.self.inside.frontier _ c.in_ok-taken.taken c.self.invariant.2 c.in_ok-taken.ensures.taken
