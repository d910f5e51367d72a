use Rattle.std.proofs.Common.{◌∙◌, refl, sym, subst}
use Rattle.proc_signals.proofs.Changing.{placed, signals_there}
use Rattle.proc_signals.proofs.Places.{AreInOrder}
use Rattle.proc_signals.proofs.senders.Senders.channel.Goals as goal

pub returns-in-Some-clause-signals : goal.returns-in-Some-clause-signals
returns-in-Some-clause-signals c =
    let sorted = subst AreInOrder (sym c.as_slice-channels.ensures.value) c.self.invariant in
    let there = placed c.args.from.now c.args.to.now _ c.as_slice-channels.result.now c.in-Some.at c.index-channels-at.result refl c.in-Some.ensures.within c.in-Some.ensures.there c.index-channels-at.is sorted in
    signals_there _ _ _ c.args.self.now _ _ there (c.as_slice-channels.ensures.value ∙ c.self.view_is)
