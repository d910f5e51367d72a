use Rattle.std.proofs.Common.{sym, subst}
use Rattle.std.specs.List.Sorted.{IsStrictlySortedBy}
use Rattle.std.specs.Map.{keys_of}
use Rattle.proc_signals.specs.Channels.{Senders, order_of_pairs}
use Rattle.proc_signals.proofs.Places.{none_sorted}
use Rattle.proc_signals.proofs.senders.Senders.new.Goals as goal

pub invariant_of-result : goal.invariant_of-result
invariant_of-result c = subst (λ (cs : Senders). IsStrictlySortedBy order_of_pairs (keys_of cs)) (sym c.new.ensures.items) none_sorted
