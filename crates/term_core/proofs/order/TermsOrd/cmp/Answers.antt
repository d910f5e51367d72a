use Rattle.std.proofs.Common.{◌∙◌}
use Rattle.term_core.proofs.ItemsOrder.{order_of_items-map}
use Rattle.term_core.proofs.order.TermsOrd.cmp.Goals as goal

pub returns : goal.returns
returns c = rw (← c.self.view_is, ← c.other.view_is) (c.cmp.ensures ∙ order_of_items-map c.self.inside.items.items c.other.inside.items.items)
