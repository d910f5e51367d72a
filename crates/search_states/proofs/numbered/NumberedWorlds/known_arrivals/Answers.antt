use Rattle.std.proofs.lemmas.Result.{IfOk-weaker}
use Rattle.search_states.proofs.numbered.NumberedWorlds.known_arrivals.Goals as goal

pub returns-clause-arrivals : goal.returns-clause-arrivals
returns-clause-arrivals c = IfOk-weaker c.read_arrivals.result _ _ (λ b is on k follows m h kept. is on k.known m h follows kept) c.read_arrivals.ensures.arrivals

pub returns-clause-of_known : goal.returns-clause-of_known
returns-clause-of_known c = c.read_arrivals.ensures.of_known
