use Rattle.std.proofs.Common.{◌≡◌, ◌++◌, map}
use Rattle.std.specs.VecDeque.Iter.{deque_iter_rest}
use Rattle.proc_signals.specs.Signal.{signal_of}
use Rattle.proc_signals.proofs.queue.QueueClone.clone.Given as goal

abbrev pub invariant-loop-signal : goal.invariant-loop-signal
invariant-loop-signal l = map signal_of l.later.items ++ map signal_of (deque_iter_rest l.signal-iterator) ≡ l.self.1
