use Rattle.std.proofs.Common.{ap, ◌∙◌}
use Rattle.std.specs.Ordering.{is_eq}
use Rattle.term_core.proofs.Equality.{terms_same}
use Rattle.term_core.proofs.order.TermPartialEq.eq.Goals as goal

pub returns-clause-same : goal.returns-clause-same
returns-clause-same c = terms_same _ _ _ (c.is_eq.ensures ∙ ap is_eq c.order_of.ensures)
