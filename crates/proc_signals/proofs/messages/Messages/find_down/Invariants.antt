use Rattle.std.proofs.Common.{◌≡◌, ◌+◌, ◌<◌, ◌^◌, map, length, option_map}
use Rattle.std.specs.VecDeque.Iter.{deque_iter_rest}
use Rattle.term_core.specs.Term.{meaning_of}
use Rattle.proc_signals.specs.Mailbox.{first_place}
use Rattle.world_model.specs.Names.{ref_of}
use Rattle.world_model.specs.Changes.{is_of_watch}
use Rattle.proc_signals.proofs.messages.Messages.find_down.Given as goal

abbrev pub invariant-loop-place : goal.invariant-loop-place
invariant-loop-place l =
    (l.place + length (deque_iter_rest l.message-iterator) < 2 ^ 64) ×
    (option_map (λ n. l.place + n) (first_place (is_of_watch (ref_of l.reference)) (map meaning_of (deque_iter_rest l.message-iterator))) ≡ first_place (is_of_watch (ref_of l.reference)) l.self)
