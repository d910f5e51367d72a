use Rattle.std.proofs.Common.{ap, ◌∙◌}
use Rattle.std.specs.Ordering.{is_eq}
use Rattle.world_identities.proofs.Orders.{identities_same}
use Rattle.world_identities.proofs.order.IdentityPartialEq.eq.Goals as goal

pub returns-clause-same : goal.returns-clause-same
returns-clause-same c = identities_same _ _ _ (c.is_eq.ensures ∙ ap is_eq c.order_of.ensures)
