use Rattle.proc_signals.proofs.Changing.{placed, removed_there, closed_sorted}
use Rattle.proc_signals.proofs.senders.Senders.close.Goals as goal

pub invariant_of-self : goal.invariant_of-self
invariant_of-self c =
    let there = placed c.args.from.now c.args.to.now _ c.self.inside.channels.items c.in-Some.at c.remove.result c.as_slice.ensures.value c.in-Some.ensures.within c.in-Some.ensures.there c.remove.ensures.value c.self.invariant in
    closed_sorted _ _ _ c.args.self.now _ _ there _ c.remove.ensures.items

pub returns-in-Some : goal.returns-in-Some
returns-in-Some c =
    let there = placed c.args.from.now c.args.to.now _ c.self.inside.channels.items c.in-Some.at c.remove.result c.as_slice.ensures.value c.in-Some.ensures.within c.in-Some.ensures.there c.remove.ensures.value c.self.invariant in
    removed_there _ _ _ c.args.self.now _ _ there c.self.view_is _ c.remove.ensures.items
