use Rattle.std.proofs.Common.{ap, ◌∙◌}
use Rattle.std.specs.Ordering.{is_eq}
use Rattle.term_core.proofs.Equality.{items_same}
use Rattle.term_core.proofs.order.TermsPartialEq.eq.Goals as goal

pub returns-clause-same : goal.returns-clause-same
returns-clause-same c = items_same _ _ _ (c.is_eq.ensures ∙ ap is_eq c.cmp.ensures)
