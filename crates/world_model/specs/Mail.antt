-- What histories say of mailboxes and channels.
use Rattle.std.specs.Prelude.{◌&&◌, ◌++◌, if◌then◌else◌, ◌∷◌, ◌≡◌, List, [], Bool, Option, None, Some, true, ℕ, drop}
use Rattle.term_core.specs.Meaning.{Meaning}
use Rattle.term_core.specs.declared.step.Step.{Step}
use Rattle.term_core.specs.declared.step.Step.TheVariants.{Turn, Deliver}
use Rattle.world_model.specs.Calls.{Call, Send, ToProcess, ToName, ToNode, SendExit, Demonitor, call_of}
use Rattle.world_model.specs.Changes.{without_first, is_of_watch, Change, SignalPut}
use Rattle.world_model.specs.Events.{History, Deed, Served, Received, Delivered, Arrives, Event, Signal}
use Rattle.world_model.specs.Names.{Pid, same_pid, same_term}
use Rattle.world_model.specs.Requests.{Program}
use Rattle.world_model.specs.Run.{changes, IsRun}
use Rattle.world_model.specs.Signals.{exit_message}
use Rattle.world_model.specs.World.{mailbox, holder, waiting}

-- ---- mailboxes, after any event of what really happened: a message comes in where it is delivered, or where a process sends to itself; it goes where a receive takes it, or `demonitor/2` flushes it

abbrev pub mailed : Pid → Meaning → Pid → List Meaning → List Meaning
mailed p message q there = if same_pid p q then there ++ (message ∷ []) else there

-- a message or an exit signal to oneself
abbrev pub mailed_if : Bool → Pid → Meaning → Pid → List Meaning → List Meaning
mailed_if is_own p message q there = if is_own then mailed p message q there else there

abbrev pub mailed_to_holder : Option Pid → Pid → Meaning → Pid → List Meaning → List Meaning
mailed_to_holder None p message q there = there
mailed_to_holder (Some to) p message q there = mailed_if (same_pid p to) p message q there

abbrev pub mailed_by_call : History → Pid → Call → Pid → List Meaning → List Meaning
mailed_by_call h p (Send (ToProcess to) message) q there = mailed_if (same_pid p to) p message q there
mailed_by_call h p (Send (ToName name) message) q there = mailed_to_holder (holder h name) p message q there
mailed_by_call h p (Send (ToNode name) message) q there = mailed_to_holder (holder h name) p message q there
mailed_by_call h p (SendExit (Some to) reason) q there = mailed_if (same_pid p to) p (exit_message p reason) q there
mailed_by_call h p (Demonitor (Some ref) (Some true)) q there = if same_pid p q then without_first (is_of_watch ref) there else there
mailed_by_call h p call q there = there

abbrev pub mailed_in : History → Step → Deed → Pid → List Meaning → List Meaning
mailed_in h (Turn p) (Served kind arguments answer) q there = mailed_by_call h p (call_of kind arguments) q there
mailed_in h (Turn p) (Received message) q there = if same_pid p q then without_first (same_term message) there else there
mailed_in h (Deliver s r) (Delivered signal (Arrives message)) q there = mailed r message q there
mailed_in h step deed q there = there

abbrev pub MailboxIsTold : Type 0
MailboxIsTold = (a : Program) (h : History) (e : Event) (q : Pid) → IsRun a h → mailbox (e ∷ h) q ≡ mailed_in h e.step e.deed q (mailbox h q)

-- ---- channels

-- the signals that changes put from one process to another, in order
abbrev pub signals_to : Pid → Pid → List Change → List Signal
signals_to s r [] = []
signals_to s r (SignalPut t u x ∷ ks) = if same_pid t s && same_pid u r then x ∷ signals_to s r ks else signals_to s r ks
signals_to s r (k ∷ ks) = signals_to s r ks

-- those that an event puts
abbrev pub puts : History → Event → Pid → Pid → List Signal
puts h e s r = signals_to s r (changes h e)

-- how many it delivers
abbrev pub delivers : Step → Deed → Pid → Pid → ℕ
delivers (Deliver t u) (Delivered signal fate) s r = if same_pid t s && same_pid u r then 1 else 0
delivers step deed s r = 0

-- the signals on their way, after any event of what really happened: those that were, and those that are put, except the one in front that is delivered
abbrev pub WaitingIsTold : Type 0
WaitingIsTold = (a : Program) (h : History) (e : Event) (s r : Pid) → IsRun a h → waiting (e ∷ h) s r ≡ drop (delivers e.step e.deed s r) (waiting h s r ++ puts h e s r)
