use Rattle.std.proofs.Common.{ap, ◌∙◌}
use Rattle.std.specs.Ordering.{is_eq}
use Rattle.term_core.proofs.Equality.{reference_ids_same}
use Rattle.term_core.proofs.order.names.RefIdPartialEq.eq.Goals as goal

pub returns-clause-same : goal.returns-clause-same
returns-clause-same c = reference_ids_same _ _ _ (c.is_eq.ensures ∙ ap is_eq c.cmp.ensures)
