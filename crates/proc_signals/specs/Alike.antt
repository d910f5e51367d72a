-- When two signals are the same: of one kind, with the same parts.
use Rattle.std.specs.Ordering.{eq_by_cmp}
use Rattle.std.specs.Prelude.{◌&&◌, Bool, false}
use Rattle.term_core.specs.StepOrder.{order_of_reference_ids}
use Rattle.world_model.specs.Events.{Signal, Message, Exit, LinkExit, Down, Guarded, Elapsed}
use Rattle.world_model.specs.Names.{Ref, same_term}

-- the same reference
abbrev pub same_id : Ref → Ref → Bool
same_id r s = eq_by_cmp order_of_reference_ids (r.pid, r.number) (s.pid, s.number)

-- the same signal
abbrev pub same_signal : Signal → Signal → Bool
same_signal (Message m) (Message n) = same_term m n
same_signal (Exit m) (Exit n) = same_term m n
same_signal (LinkExit m) (LinkExit n) = same_term m n
same_signal (Down r m) (Down s n) = same_id r s && same_term m n
same_signal (Guarded r m) (Guarded s n) = same_id r s && same_term m n
same_signal (Elapsed r m) (Elapsed s n) = same_id r s && same_term m n
same_signal a b = false
