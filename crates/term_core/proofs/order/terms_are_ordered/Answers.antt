use Rattle.term_core.specs.inside.OrderLaws.{same_term, terms_total}
use Rattle.term_core.proofs.order.terms_are_ordered.Goals as goal

pub returns-clause-total : goal.returns-clause-total
returns-clause-total c = terms_total

pub returns-clause-same : goal.returns-clause-same
returns-clause-same c = same_term
