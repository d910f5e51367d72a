use Rattle.std.proofs.Common.{◌≡◌, drop}
use Rattle.proc_signals.specs.Channels.{between}
use Rattle.proc_signals.proofs.senders.place_of.Given as goal

abbrev pub invariant-loop-at : goal.invariant-loop-at
invariant-loop-at l = between (drop l.at l.channels) l.from l.to ≡ between l.channels l.from l.to
