use Rattle.std.proofs.Common.{refl}
use Rattle.search_states.proofs.There.{grows}
use Rattle.search_states.proofs.numbered.NumberedWorlds.arrivals.Goals as goal

pub returns-clause-arrivals : goal.returns-clause-arrivals
returns-clause-arrivals c = λ k follows m h kept. c.in_ok-arrivals_from.ensures.arrivals k.known m h follows kept

pub returns-clause-of_known : goal.returns-clause-of_known
returns-clause-of_known c = c.in_ok-arrivals_from.ensures.of_known

pub returns-clause-grows : goal.returns-clause-grows
returns-clause-grows c = grows _ _ c.arrivals_from.ensures.knows

pub returns-in_err-arrivals_from-clause-grows : goal.returns-in_err-arrivals_from-clause-grows
returns-in_err-arrivals_from-clause-grows c = grows _ _ c.arrivals_from.ensures.knows

pub arrivals_from-requires : goal.arrivals_from-requires
arrivals_from-requires c κs = ((refl, tt), c.requires)
