use Rattle.std.proofs.Common.{◌≡◌, ◌+◌, ◌<◌, ◌^◌, map, length, option_map}
use Rattle.std.specs.VecDeque.Iter.{deque_iter_rest}
use Rattle.term_core.specs.Term.{meaning_of}
use Rattle.proc_signals.specs.Mailbox.{first_place}
use Rattle.proc_signals.proofs.messages.Messages.find_match.Given as goal

abbrev pub invariant-loop-place : goal.invariant-loop-place
invariant-loop-place g l =
    (l.place + length (deque_iter_rest l.message-iterator) < 2 ^ 64) ×
    (option_map (λ n. l.place + n) (first_place (g.S.Selector.takes l.selector) (map meaning_of (deque_iter_rest l.message-iterator))) ≡ first_place (g.S.Selector.takes l.selector) l.self)
