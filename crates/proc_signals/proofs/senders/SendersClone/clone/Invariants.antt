use Rattle.std.proofs.Common.{◌≡◌, take}
use Rattle.proc_signals.proofs.senders.SendersClone.clone.Given as goal

abbrev pub invariant-loop-channel : goal.invariant-loop-channel
invariant-loop-channel l = l.channels.items ≡ take l.channel-index l.channel-items
