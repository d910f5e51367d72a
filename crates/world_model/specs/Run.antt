-- The next event of each step, which steps are enabled, and the history of a schedule.
use Rattle.std.specs.List.{filter, filter_map}
use Rattle.std.specs.Prelude.{List, map, ◌∷◌, ◌≡◌, Option, option_map, Bool, is_some, None, Some, [], reverse}
use Rattle.term_core.specs.StepOrder.{order_of_steps}
use Rattle.term_core.specs.declared.step.Step.{Step}
use Rattle.term_core.specs.declared.step.Step.TheVariants.{Turn, Deliver}
use Rattle.world_model.specs.Changes.{Change, AliveSet, SignalPut, set_in_order}
use Rattle.world_model.specs.Events.{event, Event, History}
use Rattle.world_model.specs.Names.{Pid}
use Rattle.world_model.specs.Requests.{Program}
use Rattle.world_model.specs.Steps.{next_deed, changes_by}
use Rattle.world_model.specs.World.{contents, alive}

-- the one event that a step adds; none where the step is not enabled
abbrev pub next_event : Program → History → Step → Option Event
next_event a h step = option_map (event step) (next_deed a (contents h) step)

abbrev pub is_enabled : Program → History → Step → Bool
is_enabled a h step = is_some (next_event a h step)

-- what an event changes
abbrev pub changes : History → Event → List Change
changes h e = changes_by (contents h) e.step e.deed

-- ---- schedules

-- the history with the next event, if there is one
abbrev pub extended : History → Option Event → Option History
extended h None = None
extended h (Some e) = Some (e ∷ h)

-- the history of a schedule that follows a history
abbrev pub run_from : Program → Option History → List Step → Option History
run_from a None steps = None
run_from a (Some h) [] = Some h
run_from a (Some h) (step ∷ steps) = run_from a (extended h (next_event a h step)) steps

-- the history of a schedule from the beginning
abbrev pub run : Program → List Step → Option History
run a steps = run_from a (Some []) steps

-- the schedule of a history
abbrev pub schedule_of : History → List Step
schedule_of h = reverse (map (λ e. e.step) h)

-- what really happens: each event of a history is the next one of its step
abbrev pub IsRun : Program → History → Type 0
IsRun a [] = Unit {0}
IsRun a (e ∷ h) = (next_event a h e.step ≡ Some e) × IsRun a h

-- the latest event
abbrev pub latest : Option History → Option Event
latest None = None
latest (Some []) = None
latest (Some (e ∷ h)) = Some e

-- ---- enabled steps

-- the step that a change opens: a life opens the turns of its process, a signal its delivery
abbrev pub opened_by : Change → Option Step
opened_by (AliveSet p) = Some (Turn p)
opened_by (SignalPut s r signal) = Some (Deliver s r)
opened_by change = None

abbrev pub with_opened : Option Step → List Step → List Step
with_opened None steps = steps
with_opened (Some step) steps = set_in_order order_of_steps step steps

abbrev pub opened : List Change → List Step → List Step
opened [] steps = steps
opened (k ∷ ks) steps = opened ks (with_opened (opened_by k) steps)

-- the steps that may ever have been enabled, in their order: the turns of the first process and of those that were begun, and the deliveries of channels in which a signal was put
abbrev pub possible_steps : History → List Step
possible_steps [] = Turn [] ∷ []
possible_steps (e ∷ h) = opened (changes h e) (possible_steps h)

-- those that are enabled, in their order
abbrev pub enabled_steps : Program → History → List Step
enabled_steps a h = filter (is_enabled a h) (possible_steps h)

-- the processes that took part, in their order, and those that live
abbrev pub turn_of : Step → Option Pid
turn_of (Turn p) = Some p
turn_of (Deliver s r) = None

abbrev pub living : History → List Pid
living h = filter (alive h) (filter_map turn_of (possible_steps h))
