use Rattle.std.proofs.Common.{◌∙◌, refl, sym, subst}
use Rattle.proc_signals.proofs.Changing.{oldest_there, placed}
use Rattle.proc_signals.proofs.Places.{AreInOrder}
use Rattle.proc_signals.proofs.senders.Senders.front.Goals as goal

pub returns-in-Some : goal.returns-in-Some
returns-in-Some c =
    let sorted = subst AreInOrder (sym c.as_slice-channels.ensures.value) c.self.invariant in
    let there = placed c.args.from.now c.args.to.now _ c.as_slice-channels.result.now c.in-Some.at c.index-channels-at.result refl c.in-Some.ensures.within c.in-Some.ensures.there c.index-channels-at.is sorted in
    oldest_there _ _ _ c.args.self.now _ _ there (c.as_slice-channels.ensures.value ∙ c.self.view_is) _ c.oldest.ensures
