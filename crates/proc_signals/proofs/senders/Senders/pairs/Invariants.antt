use Rattle.std.proofs.Common.{◌≡◌, take}
use Rattle.std.specs.Map.{keys_of}
use Rattle.proc_signals.proofs.senders.Senders.pairs.Given as goal

abbrev pub invariant-loop-channel : goal.invariant-loop-channel
invariant-loop-channel l = l.pairs.items ≡ keys_of (take l.channel-index l.channel-items)
