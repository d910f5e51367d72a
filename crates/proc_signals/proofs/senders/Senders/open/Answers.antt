use Rattle.std.proofs.Common.{◌∙◌, ap}
use Rattle.proc_signals.specs.Channels.{between}
use Rattle.proc_signals.specs.Signal.{signal_of}
use Rattle.proc_signals.proofs.Changing.{opened, opened_sorted}
use Rattle.proc_signals.proofs.Places.{Channel}
use Rattle.proc_signals.proofs.senders.Senders.open.Goals as goal

pub invariant_of-self-2 : goal.invariant_of-self-2
invariant_of-self-2 c =
    let room = c.room_of-at.ensures in
    opened_sorted c.args.from.now c.args.to.now c.as_slice.result.now c.self.inside.channels.items c.room_of-at.result c.in_ok-channel.channel _ c.as_slice.ensures.value room.within room.before room.behind
    (ap (λ (x : Channel). x.0) c.in_ok-channel.ensures) (ap (λ cs. between cs c.args.from.now c.args.to.now) c.self.view_is ∙ c.requires) c.self.invariant c.in_ok-insert.ensures.items

pub returns-clause-ok : goal.returns-clause-ok
returns-clause-ok c =
    opened c.args.from.now c.args.to.now c.as_slice.result.now c.self.inside.channels.items c.room_of-at.result c.in_ok-channel.channel _ c.args.self.now (signal_of c.args.signal) c.as_slice.ensures.value c.self.view_is c.room_of-at.ensures.within
    c.in_ok-channel.ensures c.requires c.in_ok-insert.ensures.items
