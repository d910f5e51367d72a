use Rattle.std.proofs.Common.{sym, ◌∙◌, ap, List}
use Rattle.world_model.specs.Names.{Pid}
use Rattle.world_model.specs.Shown as shown
use Rattle.world_identities.specs.Order.{order_of_identities, order_of_processes}
use Rattle.world_identities.specs.Identities.{identity_in}
use Rattle.world_identities.specs.declared.identity.Identity.{Identity}
use Rattle.world_identities.proofs.Orders.{order_of_unread}
use Rattle.world_identities.proofs.order.unread_before.Goals as goal

pub returns-in-Unread : goal.returns-in-Unread
returns-in-Unread c =
    let first = shown.Unread c.args.pids.now in
    c.cmp.ensures ∙ ap (λ (qs : List Pid). order_of_processes c.args.pids.now qs) c.as_slice.ensures.value ∙ order_of_unread c.args.pids.now c.in-Unread.others.items ∙ ap (λ (i : Identity). order_of_identities first (identity_in i)) (sym c.in-Unread.is)
