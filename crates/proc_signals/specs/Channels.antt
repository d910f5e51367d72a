-- Channels: the signals on their way from one process to another.
use Rattle.std.specs.Prelude.{◌≡◌, ◌≤◌, ◌&&◌, ℕ, List, [], ◌∷◌, Option, if◌then◌else◌, drop, length}
use Rattle.std.specs.BTreeMap.{is_at}
use Rattle.std.specs.Map.{lookup}
use Rattle.std.specs.Ordering.{ordering_then}
use Rattle.std.specs.declared.cmp.Ordering.{Ordering}
use Rattle.term_core.specs.Order.{order_of_lists}
use Rattle.world_model.specs.Cells.{Contents, Front, Tail}
use Rattle.world_model.specs.Events.{Signal}
use Rattle.world_model.specs.Names.{Pid, same_pid}

-- what is listed with a process
abbrev pub beside : {X : Type 0} → List (Pid × X) → Pid → Option X
beside es p = lookup (is_at (order_of_lists p)) es

-- a channel that is not empty: its oldest signal, and the later ones
abbrev pub Queue : Type 0
Queue = Signal × List Signal

abbrev pub signals_in : Queue → List Signal
signals_in queue = queue.0 ∷ queue.1

-- the channels of all senders that are not empty, each under its sender and its receiver
abbrev pub Senders : Type 0
Senders = List ((Pid × Pid) × Queue)

-- the signals on their way from s to r, the oldest first
abbrev pub between : Senders → Pid → Pid → List Signal
between [] s r = []
between (c ∷ cs) s r = if same_pid c.0.0 s && same_pid c.0.1 r then signals_in c.1 else between cs s r

-- after a change the signals from p to q are those of f, and all others are as they were
abbrev pub IsChangedBetween : Pid → Pid → (List Signal → List Signal) → Senders → Senders → Type 0
IsChangedBetween p q f before after =
    (s r : Pid) → between after s r ≡ (if same_pid p s && same_pid q r then f (between before s r) else between before s r)

-- after a change the signals from p to q are those of other channels, and all others are as they were
abbrev pub TakesFrom : Pid → Pid → Senders → Senders → Senders → Type 0
TakesFrom p q other before after =
    (s r : Pid) → between after s r ≡ (if same_pid p s && same_pid q r then between other s r else between before s r)

-- these signals wait in a channel, where so many were delivered and these were put: at most as many as were put
pub record AreWaiting (signals : List Signal) (front : ℕ) (tail : List Signal) : Type 0 where
  pub waiting : signals ≡ drop front tail
  pub counted : front ≤ length tail

-- the signals between each two processes are those that wait
abbrev pub AreChannels : Senders → Contents → Type 0
AreChannels channels v = (s r : Pid) → AreWaiting (between channels s r) (v (Front s r)) (v (Tail s r))

-- pairs of processes by their senders, then by their receivers
abbrev pub order_of_pairs : Pid × Pid → Pid × Pid → Ordering
order_of_pairs a b = ordering_then (order_of_lists a.0 b.0) (order_of_lists a.1 b.1)
