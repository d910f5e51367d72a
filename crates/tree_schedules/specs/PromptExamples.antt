-- Worked rows: which steps may be taken while signals are on their way, and the schedules of a small module.
use Rattle.std.specs.List.{filter}
use Rattle.std.specs.Prelude.{◌≡◌, ℕ, Bool, true, false, List, [], ◌∷◌, codes, pos}
use Rattle.core_calls.specs.declared.call.CallKind.TheVariants as kinds
use Rattle.core_tree.specs.Syntax.{ModuleTree}
use Rattle.term_core.specs.declared.step.Step.{Step}
use Rattle.term_core.specs.declared.step.Step.TheVariants.{Turn, Deliver}
use Rattle.tree_schedules.specs.Deliveries.{first_or_all, prompt_steps}
use Rattle.tree_schedules.specs.Schedules.{all_schedules}
use Rattle.tree_schedules.specs.declared.delivery.Delivery.{Delivery}
use Rattle.tree_schedules.specs.declared.delivery.Delivery.TheVariants.{AnyTime, AtOnce}
use Rattle.world_model.specs.Asking.{program_of}
use Rattle.world_model.specs.BondExamples.{me}
use Rattle.world_model.specs.ExampleRuns.{P, P_1, P_2}
use Rattle.world_model.specs.GuardExamples.{cancel, starts_timer}
use Rattle.world_model.specs.Modules.{ask_for, child, in_turn, main, module_of, spawn_linked, the_atom, the_number}
use Rattle.world_model.specs.Orders.{Tells}
use Rattle.world_model.specs.ProcessExamples.{kills}

abbrev pub is_delivery : Step → Bool
is_delivery (Turn p) = false
is_delivery (Deliver s r) = true

-- what may be taken of these enabled steps where each signal arrives at once
abbrev pub taken_of : List Step → List Step
taken_of steps = first_or_all (filter is_delivery steps) steps

-- of two deliveries the first one, and no turn
abbrev pub FirstDeliveryIsTaken : Type 0
FirstDeliveryIsTaken = taken_of (Turn P ∷ Turn P_1 ∷ Deliver P P_1 ∷ Deliver P_1 P_2 ∷ []) ≡ Deliver P P_1 ∷ []

-- each turn where nothing is on its way
abbrev pub TurnsAreTaken : Type 0
TurnsAreTaken = taken_of (Turn P ∷ Turn P_1 ∷ []) ≡ Turn P ∷ Turn P_1 ∷ []

-- after this schedule of a module just these steps may be taken where signals arrive at once
abbrev pub MayBeTaken : ModuleTree → List Step → List Step → Type 0
MayBeTaken m schedule steps = Tells (prompt_steps (program_of m)) m schedule steps

-- the message of a timer is no hurry: while it alone is on its way its process may cancel it, or it comes
abbrev pub TimerIsNoHurry : Type 0
TimerIsNoHurry = MayBeTaken (starts_timer cancel) (Turn P ∷ []) (Turn P ∷ Deliver P_1 P ∷ [])

-- a process starts a timer and a partner, which ends: the signal of its end comes first, and the message of the timer later, though its delivery stands before that in the order of steps
abbrev pub timed_partner : ModuleTree
timed_partner = module_of (main (in_turn (ask_for kinds.StartTimer (the_number (pos 5) ∷ me ∷ the_atom (codes "x") ∷ [])) (in_turn spawn_linked (ask_for kinds.MakeRef []))) ∷ child (the_atom (codes "x")) ∷ [])

abbrev pub OtherSignalComesFirst : Type 0
OtherSignalComesFirst = MayBeTaken timed_partner (Turn P ∷ Turn P ∷ Turn P_2 ∷ []) (Deliver P_2 P ∷ [])

-- these are the schedules of a module that have at most so many steps and deliver signals then
abbrev pub HasSchedules : Delivery → ModuleTree → ℕ → List (List Step) → Type 0
HasSchedules d m n schedules = all_schedules d (program_of m) n ≡ schedules

-- a process spawns another, and kills it: once the signal is sent it is delivered, before either of them takes a turn
abbrev pub KillIsDelivered : Type 0
KillIsDelivered = HasSchedules AtOnce kills 3 (
    []
    ∷ (Turn P ∷ [])
    ∷ (Turn P ∷ Turn P ∷ [])
    ∷ (Turn P ∷ Turn P ∷ Deliver P P_1 ∷ [])
    ∷ (Turn P ∷ Turn P_1 ∷ [])
    ∷ (Turn P ∷ Turn P_1 ∷ Turn P ∷ [])
    ∷ [])

-- at any time they may take one
abbrev pub KillMayWait : Type 0
KillMayWait = HasSchedules AnyTime kills 3 (
    []
    ∷ (Turn P ∷ [])
    ∷ (Turn P ∷ Turn P ∷ [])
    ∷ (Turn P ∷ Turn P ∷ Turn P ∷ [])
    ∷ (Turn P ∷ Turn P ∷ Turn P_1 ∷ [])
    ∷ (Turn P ∷ Turn P ∷ Deliver P P_1 ∷ [])
    ∷ (Turn P ∷ Turn P_1 ∷ [])
    ∷ (Turn P ∷ Turn P_1 ∷ Turn P ∷ [])
    ∷ [])
