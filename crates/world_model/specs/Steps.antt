-- What each step does: its deed, its changes, and the cells that it reads.
use Rattle.std.specs.Prelude.{◌&&◌, ◌∷◌, ◌++◌, if◌then◌else◌, Option, None, Some, Bool, not, true, is_some, false, List, [], codes}
use Rattle.term_core.specs.Meaning.{Meaning}
use Rattle.term_core.specs.declared.step.Step.{Step}
use Rattle.term_core.specs.declared.step.Step.TheVariants.{Turn, Deliver}
use Rattle.core_calls.specs.declared.call.CallKind.{CallKind}
use Rattle.core_semantics.specs.Asked as answered
use Rattle.world_model.specs.Calls.{Call, SendExit, IsAlive, ProcessInfo, call_of}
use Rattle.world_model.specs.Cells.{Cell, Alive, Contents, Trap, Course, Machine, Front, Tail}
use Rattle.world_model.specs.Changes.{Change, TurnTaken, MessageTaken, MessageAdded, SignalDelivered, after}
use Rattle.world_model.specs.Ends.{ends, reads_of_end}
use Rattle.world_model.specs.Events.{Signal, Fate, Arrives, IsIgnored, IsDropped, Kills, Refusal, Deed, Served, Refused, Ended, EndedItself, Received, TimedOut, RanAway, Badarg, NoProcess, ByRule, Delivered}
use Rattle.world_model.specs.Lines.{line}
use Rattle.world_model.specs.Mailboxes.{mailbox_in, selected_of, reads_to_pick}
use Rattle.world_model.specs.Names.{Name, Pid, same_pid}
use Rattle.world_model.specs.Requests.{Ends, Request, Calls, Receives, RunsAway, Program}
use Rattle.world_model.specs.Signals.{exit_fate, first_of, waiting_in, fate_of, goes_with, reads_of_fate}
use Rattle.world_model.specs.Terms.{atom}

-- ---- calls

abbrev pub killing : Fate → Option Meaning
killing (Arrives message) = None
killing IsIgnored = None
killing IsDropped = None
killing (Kills reason) = Some reason

-- the reason with which a call ends its caller: an `exit/2` to oneself may
abbrev pub own_end : Bool → Bool → Pid → Meaning → Option Meaning
own_end is_own traps p reason = if is_own then killing (exit_fate traps true p reason) else None

abbrev pub ends_itself : Contents → Pid → Call → Option Meaning
ends_itself v p (SendExit (Some q) reason) = own_end (same_pid p q) (v (Trap p)) p reason
ends_itself v p call = None

-- `is_process_alive/1` of a process that lives waits until the caller's own signals to it have arrived, and so does `process_info/2` of another
abbrev pub must_wait : Contents → Pid → Call → Bool
must_wait v p (IsAlive (Some q)) = v (Alive q) && is_some (first_of (waiting_in v p q))
must_wait v p (ProcessInfo (Some q) (Some item)) = not (same_pid p q) && (v (Alive q) && is_some (first_of (waiting_in v p q)))
must_wait v p call = false

abbrev pub judged : CallKind → List Meaning → Option Refusal → Meaning → Deed
judged kind arguments None answer = Served kind arguments answer
judged kind arguments (Some refusal) answer = Refused kind arguments refusal

abbrev pub ended_or : CallKind → List Meaning → Option Meaning → Deed → Deed
ended_or kind arguments None deed = deed
ended_or kind arguments (Some reason) deed = EndedItself kind arguments reason

-- a call ends its caller, or is served, or is refused
abbrev pub deed_of_call : Contents → Pid → CallKind → List Meaning → Option Deed
deed_of_call v p kind arguments =
    let call = call_of kind arguments in
    if must_wait v p call then None else Some (ended_or kind arguments (ends_itself v p call) (judged kind arguments (line v p call).refusal (line v p call).answer))

-- ---- turns

-- a receive takes the oldest message that a clause selects; where there is none, it waits, or reaches its timeout
abbrev pub received : Bool → Option Meaning → Option Deed
received waits (Some message) = Some (Received message)
received true None = None
received false None = Some TimedOut

-- a turn serves what its process asks
abbrev pub deed_asked : Contents → Pid → Request → Option Deed
deed_asked v p (Calls kind arguments) = deed_of_call v p kind arguments
deed_asked v p (Receives waits selects) = received waits (selected_of selects (mailbox_in v p))
deed_asked v p (Ends reason) = Some (Ended reason)
deed_asked v p RunsAway = Some RanAway

-- what a process asks
abbrev pub asked : Program → Pid → Course → Request
asked a p course = a p course.origin course.answers

-- what a refused call raises in its caller
abbrev pub raised_by : Refusal → Name
raised_by Badarg = codes "badarg"
raised_by NoProcess = codes "noproc"
raised_by (ByRule rule owner) = codes "badarg"

abbrev pub runaway : Meaning
runaway = atom (codes "runaway")

-- each turn counts, and all but an end answer
abbrev pub changes_of_turn : Contents → Pid → Deed → List Change
changes_of_turn v p (Served kind arguments answer) = TurnTaken p (answered.Value answer ∷ []) ∷ (line v p (call_of kind arguments)).changes
changes_of_turn v p (Refused kind arguments refusal) = TurnTaken p (answered.Raise (atom (raised_by refusal)) ∷ []) ∷ []
changes_of_turn v p (EndedItself kind arguments reason) = TurnTaken p [] ∷ ends v p reason
changes_of_turn v p (Received message) = TurnTaken p (answered.Message message ∷ []) ∷ MessageTaken p message ∷ []
changes_of_turn v p TimedOut = TurnTaken p (answered.TimedOut ∷ []) ∷ []
changes_of_turn v p (Ended reason) = TurnTaken p [] ∷ ends v p reason
changes_of_turn v p RanAway = TurnTaken p [] ∷ ends v p runaway
changes_of_turn v p (Delivered signal fate) = []

abbrev pub reads_if_ended : Contents → Pid → Option Meaning → List Cell
reads_if_ended v p None = []
reads_if_ended v p (Some reason) = reads_of_end v p

abbrev pub reads_of_call : Contents → Pid → Call → List Cell
reads_of_call v p call = (line v p call).reads ++ reads_if_ended v p (ends_itself v p call)

abbrev pub reads_of_request : Contents → Pid → Request → List Cell
reads_of_request v p (Calls kind arguments) = reads_of_call v p (call_of kind arguments)
reads_of_request v p (Receives waits selects) = reads_to_pick p (selected_of selects (mailbox_in v p))
reads_of_request v p (Ends reason) = reads_of_end v p
reads_of_request v p RunsAway = reads_of_end v p

-- ---- deliveries

-- the front of the channel takes effect
abbrev pub deed_delivered : Contents → Pid → Pid → Option Signal → Option Deed
deed_delivered v s r None = None
deed_delivered v s r (Some signal) = Some (Delivered signal (fate_of v s r signal))

abbrev pub changes_of_fate : Contents → Pid → Fate → List Change
changes_of_fate v r (Arrives message) = MessageAdded r message ∷ []
changes_of_fate v r IsIgnored = []
changes_of_fate v r IsDropped = []
changes_of_fate v r (Kills reason) = ends v r reason

-- it leaves the channel, with it goes what it is about, and then its fate
abbrev pub changes_of_delivery : Contents → Pid → Pid → Deed → List Change
changes_of_delivery v s r (Delivered signal fate) = SignalDelivered s r ∷ (goes_with v s r signal ++ changes_of_fate (after (goes_with v s r signal) v) r fate)
changes_of_delivery v s r deed = []

abbrev pub reads_if_killed : Contents → Pid → Fate → List Cell
reads_if_killed v r (Arrives message) = []
reads_if_killed v r IsIgnored = []
reads_if_killed v r IsDropped = []
reads_if_killed v r (Kills reason) = reads_of_end v r

-- where no signal waits, all that were put are read
abbrev pub reads_of_signal : Contents → Pid → Pid → Option Signal → List Cell
reads_of_signal v s r None = Tail s r ∷ []
reads_of_signal v s r (Some signal) = reads_of_fate v s r signal ++ reads_if_killed (after (goes_with v s r signal) v) r (fate_of v s r signal)

-- ---- steps

-- what a step would do; nothing where it is not enabled
abbrev pub next_deed : Program → Contents → Step → Option Deed
next_deed a v (Turn p) = if v (Alive p) then deed_asked v p (asked a p (v (Machine p))) else None
next_deed a v (Deliver s r) = if v (Alive r) then deed_delivered v s r (first_of (waiting_in v s r)) else None

-- what an event changes
abbrev pub changes_by : Contents → Step → Deed → List Change
changes_by v (Turn p) deed = changes_of_turn v p deed
changes_by v (Deliver s r) deed = changes_of_delivery v s r deed

-- the cells that a step reads
abbrev pub reads : Program → Contents → Step → List Cell
reads a v (Turn p) = Machine p ∷ Alive p ∷ reads_of_request v p (asked a p (v (Machine p)))
reads a v (Deliver s r) = Alive r ∷ Front s r ∷ reads_of_signal v s r (first_of (waiting_in v s r))
