-- Words for what happens by a schedule, as computed from the definitions.
use Rattle.std.specs.Prelude.{◌≡◌, List, [], ◌∷◌, Option, Some, None, reverse, codes}
use Rattle.term_core.specs.Meaning.{Meaning, Nil}
use Rattle.term_core.specs.declared.step.Step.{Step}
use Rattle.term_core.specs.declared.step.Step.TheVariants.{Turn}
use Rattle.core_tree.specs.Syntax.{ModuleTree}
use Rattle.core_calls.specs.declared.call.CallKind.{CallKind}
use Rattle.core_calls.specs.declared.call.CallKind.TheVariants as kinds
use Rattle.world_model.specs.Asking.{program_of}
use Rattle.world_model.specs.Events.{Event, event, History, Served, Refused, ByRule, Ended}
use Rattle.world_model.specs.Names.{Name, Pid}
use Rattle.world_model.specs.Run.{run, latest}
use Rattle.world_model.specs.Terms.{atom, reference, number, tuple, list_of}
use Rattle.world_model.specs.declared.rule.Rule.{Rule}

-- ---- words

abbrev pub P : Pid
P = []

abbrev pub P_1 : Pid
P_1 = 1 ∷ []

abbrev pub P_2 : Pid
P_2 = 2 ∷ []

abbrev pub P_3 : Pid
P_3 = 3 ∷ []

-- the reference #P.1
abbrev pub R_1 : Meaning
R_1 = reference (record { pid = []; number = 1 })

abbrev pub events_in : Option History → Option (List Event)
events_in None = None
events_in (Some h) = Some (reverse h)

-- by this schedule just these events happen, the first of them first
abbrev pub Happens : ModuleTree → List Step → List Event → Type 0
Happens m steps events = events_in (run (program_of m) steps) ≡ Some events

-- the last step of a schedule is not enabled, or one before it
abbrev pub HasNoRun : ModuleTree → List Step → Type 0
HasNoRun m steps = run (program_of m) steps ≡ None

-- the last event of a schedule
abbrev pub EndsWith : ModuleTree → List Step → Event → Type 0
EndsWith m steps e = latest (run (program_of m) steps) ≡ Some e

abbrev pub serves_it : Pid → CallKind → List Meaning → Meaning → Event
serves_it p kind arguments answer = event (Turn p) (Served kind arguments answer)

abbrev pub refuses_it : Pid → CallKind → List Meaning → Rule → Option Pid → Event
refuses_it p kind arguments rule told = event (Turn p) (Refused kind arguments (ByRule rule told))

abbrev pub ends_it : Pid → Meaning → Event
ends_it p reason = event (Turn p) (Ended reason)

abbrev pub normal : Meaning
normal = atom (codes "normal")

-- the reason of an end by an error
abbrev pub error_of : Name → Meaning
error_of text = tuple (atom text ∷ Nil ∷ [])

abbrev pub t : Meaning
t = atom (codes "t")

abbrev pub a_1 : Meaning
a_1 = tuple (atom (codes "a") ∷ number 1 ∷ [])

abbrev pub named_table : Meaning
named_table = list_of (atom (codes "named_table") ∷ [])

abbrev pub spawned : Name → List Meaning → List Meaning
spawned name arguments = atom (codes "m") ∷ atom name ∷ list_of arguments ∷ []

abbrev pub made_it : Event
made_it = serves_it P kinds.New (t ∷ named_table ∷ []) t
