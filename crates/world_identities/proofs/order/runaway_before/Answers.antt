use Rattle.std.proofs.Common.{sym, ◌∙◌, ap}
use Rattle.world_model.specs.Shown as shown
use Rattle.world_identities.specs.Order.{order_of_identities}
use Rattle.world_identities.specs.Identities.{identity_in}
use Rattle.world_identities.specs.declared.identity.Identity.{Identity}
use Rattle.world_identities.proofs.Orders.{order_of_runaways}
use Rattle.world_identities.proofs.order.runaway_before.Goals as goal

pub returns-in-Runaway : goal.returns-in-Runaway
returns-in-Runaway c =
    let first = shown.Runaway c.args.p.now in
    c.cmp.ensures ∙ order_of_runaways c.args.p.now c.in-Runaway.q ∙ ap (λ (i : Identity). order_of_identities first (identity_in i)) (sym c.in-Runaway.is)
