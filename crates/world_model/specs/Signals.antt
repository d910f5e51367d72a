-- Signals that are put, the messages that the world itself makes, and what a signal does where it takes effect (Erlang reference manual, "Processes").
use Rattle.std.specs.List.{list_any}
use Rattle.std.specs.Prelude.{Bool, not, ◌&&◌, List, [], ◌∷◌, Option, Some, None, is_some, if◌then◌else◌, codes, drop, false}
use Rattle.term_core.specs.Meaning.{Meaning}
use Rattle.world_model.specs.Cells.{Cell, Trap, Front, Tail, Links, Watch, Watchers, Guard, Contents}
use Rattle.world_model.specs.Changes.{Change, SignalPut, PartnerRemoved, WatchCleared, WatcherRemoved, GuardCleared, GuardUnwatched}
use Rattle.world_model.specs.Events.{Signal, Message, Exit, LinkExit, Down, Guarded, Elapsed, Fate, Arrives, IsIgnored, IsDropped, Kills}
use Rattle.world_model.specs.Guards.{is_alias_of, ends_by_reply, timer_in, watch_name}
use Rattle.world_model.specs.Names.{Name, Pid, Ref, own_node, same_pid}
use Rattle.world_model.specs.Terms.{reference, atom, process, tuple, is_atom}

-- ---- messages of the world

-- the message for an exit signal ("Receiving Exit Signals")
abbrev pub exit_message : Pid → Meaning → Meaning
exit_message s reason = tuple (atom (codes "EXIT") ∷ process s ∷ reason ∷ [])

-- what the message of a watch calls its process: that process, or the name by which the watch was made, with the node
abbrev pub watched_as : Pid → Option Name → Meaning
watched_as s None = process s
watched_as s (Some name) = tuple (atom name ∷ atom own_node ∷ [])

-- the message of a watch (erlang manual, `monitor/2`)
abbrev pub down_message : Ref → Meaning → Meaning → Meaning
down_message ref who reason = tuple (atom (codes "DOWN") ∷ reference ref ∷ atom (codes "process") ∷ who ∷ reason ∷ [])

-- the message to a new owner (ets manual, `give_away/3`)
abbrev pub transfer_message : Meaning → Pid → Meaning → Meaning
transfer_message handle from gift = tuple (atom (codes "ETS-TRANSFER") ∷ handle ∷ process from ∷ gift ∷ [])

-- ---- channels

-- the signals on their way: those that were put, less those that were delivered
abbrev pub waiting_in : Contents → Pid → Pid → List Signal
waiting_in v s r = drop (v (Front s r)) (v (Tail s r))

abbrev pub first_of : {A : Type 0} → List A → Option A
first_of [] = None
first_of (x ∷ xs) = Some x

-- a signal is put for a process that lives
abbrev pub put_if : Bool → Pid → Pid → Signal → List Change
put_if lives s r signal = if lives then SignalPut s r signal ∷ [] else []

-- ---- what becomes of a signal

abbrev pub is_normal : Meaning → Bool
is_normal reason = is_atom (codes "normal") reason

-- a process that traps exits gets a message; reason 'normal' is ignored, except from itself; any other ends it
abbrev pub as_exit : Bool → Bool → Pid → Meaning → Fate
as_exit traps is_own s reason = if traps then Arrives (exit_message s reason) else (if is_normal reason && not is_own then IsIgnored else Kills reason)

-- of `exit/2`, where 'kill' always ends, with 'killed'
abbrev pub exit_fate : Bool → Bool → Pid → Meaning → Fate
exit_fate traps is_own s reason = if is_atom (codes "kill") reason then Kills (atom (codes "killed")) else as_exit traps is_own s reason

-- the signal of a link that is gone is dropped
abbrev pub link_fate : Bool → Bool → Pid → Meaning → Fate
link_fate stands traps s reason = if stands then as_exit traps false s reason else IsDropped

-- the signal of a watch that is gone is dropped
abbrev pub down_fate : Option Pid → Ref → Meaning → Meaning → Fate
down_fate target ref who reason = if is_some target then Arrives (down_message ref who reason) else IsDropped

-- a message that nothing lets in is dropped
abbrev pub guarded_fate : Bool → Meaning → Fate
guarded_fate stands message = if stands then Arrives message else IsDropped

abbrev pub fate_of : Contents → Pid → Pid → Signal → Fate
fate_of v s r (Message message) = Arrives message
fate_of v s r (Exit reason) = exit_fate (v (Trap r)) false s reason
fate_of v s r (LinkExit reason) = link_fate (list_any (same_pid s) (v (Links r))) (v (Trap r)) s reason
fate_of v s r (Down ref reason) = down_fate (v (Watch ref)) ref (watched_as s (watch_name (v (Guard ref)))) reason
fate_of v s r (Guarded ref message) = guarded_fate (is_alias_of r (v (Guard ref))) message
fate_of v s r (Elapsed ref message) = guarded_fate (is_some (timer_in (v (Guard ref)))) message

-- what it reads for that: the signal of a link that is gone is dropped, whether its receiver traps exits or not
abbrev pub trap_if : Bool → Pid → List Cell
trap_if stands r = if stands then Trap r ∷ [] else []

-- where a message comes through an alias that it ends, the watch goes too
abbrev pub watch_if : Bool → Ref → List Cell
watch_if replies ref = if replies then Watch ref ∷ [] else []

abbrev pub reads_of_fate : Contents → Pid → Pid → Signal → List Cell
reads_of_fate v s r (Message message) = []
reads_of_fate v s r (Exit reason) = Trap r ∷ []
reads_of_fate v s r (LinkExit reason) = Links r ∷ Links s ∷ trap_if (list_any (same_pid s) (v (Links r))) r
reads_of_fate v s r (Down ref reason) = Watch ref ∷ Watchers s ∷ Guard ref ∷ []
reads_of_fate v s r (Guarded ref message) = Guard ref ∷ watch_if (ends_by_reply r (v (Guard ref))) ref
reads_of_fate v s r (Elapsed ref message) = Guard ref ∷ []

-- what goes with a signal, whatever becomes of it: the link, the watch, the alias that a reply ends, or the timer
abbrev pub pair_goes : Pid → Pid → List Change
pair_goes p q = PartnerRemoved p q ∷ PartnerRemoved q p ∷ []

-- a watch goes from the process that it is for
abbrev pub watch_goes : Ref → Option Pid → List Change
watch_goes ref None = []
watch_goes ref (Some q) = WatchCleared ref ∷ WatcherRemoved q ref ∷ []

abbrev pub reply_ends : Bool → Ref → Option Pid → List Change
reply_ends replies ref target = if replies then GuardCleared ref ∷ watch_goes ref target else []

abbrev pub goes_with : Contents → Pid → Pid → Signal → List Change
goes_with v s r (Message message) = []
goes_with v s r (Exit reason) = []
goes_with v s r (LinkExit reason) = pair_goes s r
goes_with v s r (Down ref reason) = WatchCleared ref ∷ WatcherRemoved s ref ∷ GuardUnwatched ref ∷ []
goes_with v s r (Guarded ref message) = reply_ends (ends_by_reply r (v (Guard ref))) ref (v (Watch ref))
goes_with v s r (Elapsed ref message) = GuardCleared ref ∷ []
