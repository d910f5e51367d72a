use Rattle.search_states.proofs.There.{grows}
use Rattle.search_states.proofs.numbered.NumberedWorlds.goes_on.Goals as goal

pub returns-clause-goes_on : goal.returns-clause-goes_on
returns-clause-goes_on c = λ k follows m h kept. c.in_ok-goes_on.ensures.goes_on k.known.store m h follows kept

pub returns-clause-grows : goal.returns-clause-grows
returns-clause-grows c = grows _ _ c.goes_on.ensures.knows

pub returns-in_err-goes_on-clause-grows : goal.returns-in_err-goes_on-clause-grows
returns-in_err-goes_on-clause-grows c = grows _ _ c.goes_on.ensures.knows
