use Rattle.std.proofs.Common.{◌∙◌, ap, sym}
use Rattle.std.specs.BTreeMap.{get}
use Rattle.term_core.specs.Order.{order_of_lists}
use Rattle.proc_links.specs.Bearers.{put_at}
use Rattle.proc_links.proofs.Named.{written_now}
use Rattle.proc_links.proofs.names.Bearers.give_back.Goals as goal

pub returns-in-Some-get_mut-clause-holders : goal.returns-in-Some-get_mut-clause-holders
returns-in-Some-get_mut-clause-holders c = λ m.
    written_now c.args.self.now.holders (c.get_mut.follows.lender c.in-Some.pid) c.args.name.now c.in-Some.pid c.in-Some-get_mut.holder.now c.in-Some-get_mut.ensures.value (c.get_mut.follows.holds c.in-Some.pid) m
    ∙ ap (λ o. put_at c.args.name.now o m (get order_of_lists c.args.self.now.holders m)) (sym c.in-Some.is)
