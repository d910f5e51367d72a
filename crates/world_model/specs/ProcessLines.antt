-- What a line of the calls is, and the parts of the lines of processes, each of the values that it reads (Erlang manual, module `erlang`).
use Rattle.std.specs.List.{list_any}
use Rattle.std.specs.Prelude.{List, ◌++◌, if◌then◌else◌, ◌+◌, ◌&&◌, ◌∷◌, ◌||◌, Option, None, Some, [], ℕ, ℤ, length, option_map, not, Bool, codes, true, false, is_some}
use Rattle.term_core.specs.Meaning.{Meaning, Int, Nil}
use Rattle.world_model.specs.Calls.{SpawnWay, Alone, Linked, Watched}
use Rattle.world_model.specs.Cells.{Cell, Watch, Guard, Course, Contents, Machine, Trap, Alive, Links, Watchers, Holder, NameOf, Taken, Mailed, Front, Tail}
use Rattle.world_model.specs.Changes.{Change, PartnerAdded, WatchSet, WatcherAdded, MachineStarted, AliveSet, MessageAdded, CellTouched, SignalPut, WatchCleared, WatcherRemoved, GuardSet, GuardCleared, GuardUnwatched, HolderSet, NameSet, HolderCleared, NameCleared}
use Rattle.world_model.specs.Ends.{alive_if}
use Rattle.world_model.specs.Events.{Refusal, Badarg, Message, Exit, NoProcess, LinkExit, Down, Guarded, Elapsed}
use Rattle.world_model.specs.Guards as guards
use Rattle.world_model.specs.Guards.{Alias, Timer, NamedWatch, NamedAlias}
use Rattle.world_model.specs.Mailboxes.{mailbox_in, picked, reads_to_pick}
use Rattle.world_model.specs.Names.{Name, Ref, Pid, same_pid, same_name}
use Rattle.world_model.specs.Requests.{Origin}
use Rattle.world_model.specs.Signals.{put_if, exit_message}
use Rattle.world_model.specs.Terms.{process, ok, tuple, reference, atom, number, truth}
use Rattle.world_model.specs.declared.alias.AliasEnd.{AliasEnd}
use Rattle.world_model.specs.declared.process.ProcessItem.{ProcessItem}
use Rattle.world_model.specs.declared.process.ProcessItem.TheVariants.{RegisteredName, QueueLength}

pub record CallLine : Type 0 where
  pub refusal : Option Refusal
  pub answer : Meaning
  pub changes : List Change
  pub reads : List Cell

-- a line that may be refused: why it is if it is, the cells that it reads, its answer, its changes
abbrev pub serves_unless : Option Refusal → List Cell → Meaning → List Change → CallLine
serves_unless refusal reads answer changes = record { refusal = refusal; answer = answer; changes = changes; reads = reads }

-- a line that is always served
abbrev pub serves : List Cell → Meaning → List Change → CallLine
serves reads answer changes = serves_unless None reads answer changes

-- a line that is always refused, with the cells that it reads
abbrev pub badarg : List Cell → CallLine
badarg reads = record { refusal = Some Badarg; answer = ok; changes = []; reads = reads }

-- ---- names of what a process creates

-- the next number of a process
abbrev pub next_number : Course → ℕ
next_number course = course.turns + 1

abbrev pub child_of : Pid → Course → Pid
child_of p course = p ++ (next_number course ∷ [])

abbrev pub ref_of_turn : Pid → Course → Ref
ref_of_turn p course = record { pid = p; number = next_number course }

abbrev pub next_child : Contents → Pid → Pid
next_child v p = child_of p (v (Machine p))

abbrev pub next_ref : Contents → Pid → Ref
next_ref v p = ref_of_turn p (v (Machine p))

-- ---- spawn

abbrev pub pair_begins : Pid → Pid → List Change
pair_begins p q = PartnerAdded p q ∷ PartnerAdded q p ∷ []

abbrev pub watch_begins : Ref → Pid → List Change
watch_begins ref q = WatchSet ref q ∷ WatcherAdded q ref ∷ []

abbrev pub bound : SpawnWay → Pid → Pid → Ref → List Change
bound Alone p child ref = []
bound Linked p child ref = pair_begins p child
bound Watched p child ref = watch_begins ref child

abbrev pub child_told : SpawnWay → Pid → Ref → Meaning
child_told Alone child ref = process child
child_told Linked child ref = process child
child_told Watched child ref = tuple (process child ∷ reference ref ∷ [])

abbrev pub spawn_line : SpawnWay → Origin → Pid → Course → CallLine
spawn_line way origin p course = serves [] (child_told way (child_of p course) (ref_of_turn p course)) (MachineStarted (child_of p course) origin ∷ AliveSet (child_of p course) ∷ bound way p (child_of p course) (ref_of_turn p course))

-- ---- signals to another, and to oneself, where they take effect at once

abbrev pub read_of_target : Bool → Pid → Pid → List Cell
read_of_target is_own p to = if is_own then Trap p ∷ [] else Alive to ∷ []

abbrev pub sent : Bool → Contents → Pid → Pid → Meaning → List Change
sent is_own v p to message = if is_own then MessageAdded p message ∷ [] else put_if (v (Alive to)) p to (Message message)

-- a send to a name
abbrev pub sent_to_holder : Contents → Pid → Option Pid → Meaning → List Change
sent_to_holder v p None message = []
sent_to_holder v p (Some to) message = sent (same_pid p to) v p to message

abbrev pub unless_held : Option Pid → Option Refusal
unless_held None = Some Badarg
unless_held (Some q) = None

abbrev pub holder_read : Pid → Option Pid → List Cell
holder_read p None = []
holder_read p (Some to) = read_of_target (same_pid p to) p to

-- an exit signal to oneself that does not end its caller is a message
abbrev pub exited : Bool → Contents → Pid → Pid → Meaning → List Change
exited is_own v p to reason = if is_own then MessageAdded p (exit_message p reason) ∷ [] else put_if (v (Alive to)) p to (Exit reason)

-- ---- links

-- what `link/1` results in: the pair is there or it is oneself; a pair; a pair with one that is gone, which is reported; or nothing
pub data LinkWay : Type 0 where
  Stands : LinkWay
  Pairs : LinkWay
  PairsGone : LinkWay
  Fails : LinkWay

abbrev pub link_way : Pid → Pid → List Pid → Bool → Bool → LinkWay
link_way p q partners lives traps =
    if same_pid p q || list_any (same_pid q) partners then Stands else
    (if lives then Pairs else
    (if traps then PairsGone else Fails))

abbrev pub noproc : Meaning
noproc = atom (codes "noproc")

abbrev pub link_refusal : LinkWay → Option Refusal
link_refusal Stands = None
link_refusal Pairs = None
link_refusal PairsGone = None
link_refusal Fails = Some NoProcess

abbrev pub link_changes : Pid → Pid → LinkWay → List Change
link_changes p q Stands = CellTouched (Links p) ∷ CellTouched (Links q) ∷ []
link_changes p q Pairs = pair_begins p q
link_changes p q PairsGone = pair_begins p q ++ (SignalPut q p (LinkExit noproc) ∷ [])
link_changes p q Fails = []

abbrev pub link_line : Pid → Pid → LinkWay → CallLine
link_line p q way = serves_unless (link_refusal way) (Alive q ∷ Trap p ∷ Links p ∷ []) ok (link_changes p q way)

-- ---- watches

-- of one that is gone the message comes at once
abbrev pub gone_told : Bool → Pid → Pid → Ref → List Change
gone_told true p q ref = []
gone_told false p q ref = SignalPut q p (Down ref noproc) ∷ []

-- with the watch of another an alias may begin
abbrev pub alias_beside : Bool → Option AliasEnd → Option AliasEnd
alias_beside is_own alias = if is_own then None else alias

abbrev pub alias_begins : Pid → Ref → Option AliasEnd → List Change
alias_begins p ref None = []
alias_begins p ref (Some end) = GuardSet ref (Alias p end) ∷ []

abbrev pub monitor_line : Pid → Pid → Ref → Bool → Option AliasEnd → CallLine
monitor_line p q ref lives alias = serves (Alive q ∷ []) (reference ref) (watch_begins ref q ++ (alias_begins p ref alias ++ gone_told lives p q ref))

-- of a watch by name the name is kept, and an alias that begins with it
abbrev pub named_guard : Pid → Name → Option AliasEnd → guards.Guard
named_guard p name None = NamedWatch name
named_guard p name (Some end) = NamedAlias name p end

abbrev pub named_begins : Pid → Name → Ref → Pid → Bool → Option AliasEnd → List Change
named_begins p name ref q lives alias = watch_begins ref q ++ (GuardSet ref (named_guard p name alias) ∷ gone_told lives p q ref)

-- a watch by name is one of the process that has it then; where nobody has it, it is one of the caller, from which its message comes at once
abbrev pub named_line : Contents → Pid → Name → Ref → Option AliasEnd → Option Pid → CallLine
named_line v p name ref alias None = serves (Holder name ∷ []) (reference ref) (named_begins p name ref p false alias)
named_line v p name ref alias (Some q) = serves (Holder name ∷ Alive q ∷ []) (reference ref) (named_begins p name ref q (v (Alive q)) (alias_beside (same_pid p q) alias))

-- a watch ends if the caller made it
abbrev pub watch_ends : Pid → Ref → Option Pid → List Change
watch_ends p ref None = CellTouched (Watch ref) ∷ []
watch_ends p ref (Some q) = if same_pid ref.pid p then WatchCleared ref ∷ WatcherRemoved q ref ∷ GuardUnwatched ref ∷ [] else CellTouched (Watch ref) ∷ CellTouched (Watchers q) ∷ []

-- a flush takes its message, if it is there
abbrev pub flushed : Bool → Pid → Option Meaning → List Change
flushed false p message = []
flushed true p message = picked p message

abbrev pub reads_to_flush : Bool → Pid → Option Meaning → List Cell
reads_to_flush false p message = []
reads_to_flush true p message = reads_to_pick p message

abbrev pub demonitor_reads : Ref → Option Pid → List Cell
demonitor_reads ref target = Watch ref ∷ alive_if target

abbrev pub demonitor_line : Pid → Ref → Bool → Option Pid → Option Meaning → CallLine
demonitor_line p ref flushes target message = serves (demonitor_reads ref target ++ reads_to_flush flushes p message) ok (watch_ends p ref target ++ flushed flushes p message)

-- ---- aliases

-- what is no alias lets nothing in; a message to an alias is put, to one's own too, and is let in where it comes
abbrev pub send_line : Contents → Pid → Ref → Option Pid → Meaning → CallLine
send_line v p ref None message = serves (Guard ref ∷ []) message []
send_line v p ref (Some q) message = serves (Guard ref ∷ Alive q ∷ []) message (put_if (v (Alive q)) p q (Guarded ref message))

-- an alias ends alone: the name of its watch stays
abbrev pub alias_goes : Ref → Option Name → List Change
alias_goes ref None = GuardCleared ref ∷ []
alias_goes ref (Some name) = GuardSet ref (NamedWatch name) ∷ []

abbrev pub unalias_line : Ref → Bool → Option Name → CallLine
unalias_line ref stands name = serves (Guard ref ∷ []) (truth stands) (if stands then alias_goes ref name else [])

-- ---- timers

-- the message of a timer (Erlang manual, `start_timer/4`), or that of `send_after/4` as it is
abbrev pub timer_message : Bool → Ref → Meaning → Meaning
timer_message is_named ref message = if is_named then tuple (atom (codes "timeout") ∷ reference ref ∷ message ∷ []) else message

-- it is on its way at once, from a sender of its own
abbrev pub timer_line : Pid → Course → Bool → ℤ → Pid → Bool → Meaning → CallLine
timer_line p course is_named time to lives message =
    serves (Alive to ∷ []) (reference (ref_of_turn p course)) (GuardSet (ref_of_turn p course) (Timer to time) ∷ put_if lives (child_of p course) to (Elapsed (ref_of_turn p course) (timer_message is_named (ref_of_turn p course) message)))

-- a timer for a process that is gone has ended
abbrev pub time_left : Contents → Option (Pid × ℤ) → Option ℤ
time_left v None = None
time_left v (Some timer) = if v (Alive timer.0) then Some timer.1 else None

abbrev pub told_left : Option ℤ → Meaning
told_left None = truth false
told_left (Some time) = Int time

abbrev pub timer_reads : Ref → Option (Pid × ℤ) → List Cell
timer_reads ref timer = Guard ref ∷ alive_if (option_map (λ it. it.0) timer)

abbrev pub timer_ends : Ref → Option (Pid × ℤ) → List Change
timer_ends ref timer = if is_some timer then GuardCleared ref ∷ [] else []

-- ---- names

abbrev pub is_undefined : Name → Bool
is_undefined name = same_name name (codes "undefined")

-- the process lives, and neither has the other
abbrev pub register_refusal : Name → Bool → Option Pid → Option Name → Option Refusal
register_refusal name lives holder other = if lives && (not (is_undefined name) && (not (is_some holder) && not (is_some other))) then None else Some Badarg

abbrev pub register_line : Name → Pid → Bool → Option Pid → Option Name → CallLine
register_line name q lives holder other = serves_unless (register_refusal name lives holder other) (Alive q ∷ Holder name ∷ NameOf q ∷ []) ok (HolderSet name q ∷ NameSet q name ∷ [])

abbrev pub unregister_line : Name → Option Pid → CallLine
unregister_line name None = badarg (Holder name ∷ [])
unregister_line name (Some q) = serves (Holder name ∷ Alive q ∷ []) ok (HolderCleared name ∷ NameCleared q ∷ [])

-- ---- what is told of a process

abbrev pub item_reads : Pid → ProcessItem → List Cell
item_reads q RegisteredName = NameOf q ∷ []
item_reads q QueueLength = Taken q ∷ Mailed q ∷ []

-- a process without a name has no pair
abbrev pub name_told : Option Name → Meaning
name_told None = Nil
name_told (Some name) = tuple (atom (codes "registered_name") ∷ atom name ∷ [])

abbrev pub item_told : Contents → Pid → ProcessItem → Meaning
item_told v q RegisteredName = name_told (v (NameOf q))
item_told v q QueueLength = tuple (atom (codes "message_queue_len") ∷ number (length (mailbox_in v q)) ∷ [])

abbrev pub undefined : Meaning
undefined = atom (codes "undefined")

-- of oneself at once; of another as by a signal to it, so that the caller's own signals to it come before
abbrev pub info_line : Bool → Contents → Pid → Pid → ProcessItem → CallLine
info_line true v p q item = serves (item_reads p item) (item_told v p item) []
info_line false v p q item = serves (Alive q ∷ Front p q ∷ Tail p q ∷ item_reads q item) (if v (Alive q) then item_told v q item else undefined) []
