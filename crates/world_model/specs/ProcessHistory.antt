-- What histories say of processes, in the words of their events: each after an event by what was so before.
use Rattle.std.specs.Prelude.{◌∷◌, ◌+◌, if◌then◌else◌, ◌++◌, ◌≡◌, ◌&&◌, Option, Some, None, Bool, false, true, List, [], unwrap_or}
use Rattle.term_core.specs.declared.step.Step.{Step}
use Rattle.term_core.specs.declared.step.Step.TheVariants.{Turn, Deliver}
use Rattle.core_semantics.specs.Asked as answered
use Rattle.core_semantics.specs.Asked.{Answered}
use Rattle.world_model.specs.Calls.{Call, Spawn, call_of, Flag}
use Rattle.world_model.specs.Events.{Deed, Ended, RanAway, EndedItself, Delivered, Kills, Event, History, Served, Refused, Received, TimedOut}
use Rattle.world_model.specs.Names.{Pid, same_pid}
use Rattle.world_model.specs.ProcessLines.{next_child}
use Rattle.world_model.specs.Steps.{raised_by}
use Rattle.world_model.specs.Terms.{atom}
use Rattle.world_model.specs.World.{contents, alive, turns, answers, traps}

-- ---- life: an event may end a process, or begin one

-- the process that an event ends: by its last turn, by a call to itself, or by a signal
abbrev pub ended_in : Step → Deed → Option Pid
ended_in (Turn p) (Ended reason) = Some p
ended_in (Turn p) RanAway = Some p
ended_in (Turn p) (EndedItself kind arguments reason) = Some p
ended_in (Deliver s r) (Delivered signal (Kills reason)) = Some r
ended_in step deed = None

abbrev pub ended_by : Event → Option Pid
ended_by e = ended_in e.step e.deed

-- the process that it begins: a served spawn begins the caller's next child
abbrev pub begun_by_call : History → Pid → Call → Option Pid
begun_by_call h p (Spawn way (Some origin)) = Some (next_child (contents h) p)
begun_by_call h p call = None

abbrev pub begun_in : History → Step → Deed → Option Pid
begun_in h (Turn p) (Served kind arguments answer) = begun_by_call h p (call_of kind arguments)
begun_in h step deed = None

abbrev pub begun_by : History → Event → Option Pid
begun_by h e = begun_in h e.step e.deed

abbrev pub is_it : Option Pid → Pid → Bool
is_it None q = false
is_it (Some p) q = same_pid p q

-- a process lives from where it begins, the first from the beginning, until an event ends it
abbrev pub AliveIsTold : Type 0
AliveIsTold = (h : History) (e : Event) (q : Pid) → alive (e ∷ h) q ≡ (if is_it (ended_by e) q then false else (if is_it (begun_by h e) q then true else alive h q))

-- ---- turns and answers

abbrev pub is_turn_of : Pid → Step → Bool
is_turn_of q (Turn p) = same_pid p q
is_turn_of q (Deliver s r) = false

-- a turn does what turns do: no step brings about a turn that delivers
abbrev pub is_of_turn : Deed → Bool
is_of_turn (Delivered signal fate) = false
is_of_turn deed = true

-- what an event answers to the process whose turn it is: a value, what is raised, a message, or that none came; an end answers nothing
abbrev pub answer_in : Deed → List Answered
answer_in (Served kind arguments answer) = answered.Value answer ∷ []
answer_in (Refused kind arguments refusal) = answered.Raise (atom (raised_by refusal)) ∷ []
answer_in (Received message) = answered.Message message ∷ []
answer_in TimedOut = answered.TimedOut ∷ []
answer_in deed = []

-- the turns and the answers of a process: those of its turns, from where it began
abbrev pub TurnsAreTold : Type 0
TurnsAreTold = (h : History) (e : Event) (q : Pid) → turns (e ∷ h) q ≡ (if is_it (begun_by h e) q then 0 else (if is_turn_of q e.step && is_of_turn e.deed then turns h q + 1 else turns h q))

abbrev pub AnswersAreTold : Type 0
AnswersAreTold = (h : History) (e : Event) (q : Pid) → answers (e ∷ h) q ≡ (if is_it (begun_by h e) q then [] else (if is_turn_of q e.step && is_of_turn e.deed then answers h q ++ answer_in e.deed else answers h q))

-- ---- the flag

-- what a call sets the flag to
abbrev pub flag_in : Call → Option Bool
flag_in (Flag traps) = traps
flag_in call = None

abbrev pub flag_set : Deed → Option Bool
flag_set (Served kind arguments answer) = flag_in (call_of kind arguments)
flag_set deed = None

-- a process traps exits as its latest served `process_flag/2` says
abbrev pub TrapsAreTold : Type 0
TrapsAreTold = (h : History) (e : Event) (q : Pid) → traps (e ∷ h) q ≡ (if is_turn_of q e.step then unwrap_or (flag_set e.deed) (traps h q) else traps h q)
