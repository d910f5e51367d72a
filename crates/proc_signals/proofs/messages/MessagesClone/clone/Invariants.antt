use Rattle.std.proofs.Common.{◌≡◌, ◌++◌, map}
use Rattle.std.specs.VecDeque.Iter.{deque_iter_rest}
use Rattle.term_core.specs.Term.{meaning_of}
use Rattle.proc_signals.proofs.messages.MessagesClone.clone.Given as goal

abbrev pub invariant-loop-message : goal.invariant-loop-message
invariant-loop-message l = map meaning_of l.items.items ++ map meaning_of (deque_iter_rest l.message-iterator) ≡ l.self
