use Rattle.std.proofs.Common.{sym, ◌∙◌, ap}
use Rattle.term_core.specs.Term.{meaning_of}
use Rattle.world_model.specs.Shown as shown
use Rattle.world_identities.specs.Order.{order_of_identities}
use Rattle.world_identities.specs.Identities.{identity_in}
use Rattle.world_identities.specs.declared.identity.Identity.{Identity}
use Rattle.world_identities.proofs.Orders.{order_of_ends}
use Rattle.world_identities.proofs.order.end_before.Goals as goal

pub returns-in-End : goal.returns-in-End
returns-in-End c =
    let first = shown.End c.args.p.now (meaning_of c.args.x.now) in
    c.order_of_ends.ensures ∙ order_of_ends c.args.p.now c.in-End.pid (meaning_of c.args.x.now) (meaning_of c.in-End.reason) ∙ ap (λ (i : Identity). order_of_identities first (identity_in i)) (sym c.in-End.is)
