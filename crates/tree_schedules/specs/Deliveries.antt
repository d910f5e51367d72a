-- Prompt schedules, in which signals are delivered at once, and schedules by when signals are delivered.
use Rattle.std.specs.List.{filter}
use Rattle.std.specs.Ordering.{is_gt}
use Rattle.std.specs.Prelude.{◌≡◌, ◌↔◌, Bool, true, false, List, [], ◌∷◌, ◌++◌, Option, Some, None}
use Rattle.term_core.specs.StepOrder.{order_of_steps}
use Rattle.term_core.specs.declared.step.Step.{Step}
use Rattle.term_core.specs.declared.step.Step.TheVariants.{Turn, Deliver}
use Rattle.tree_schedules.specs.declared.delivery.Delivery.{Delivery}
use Rattle.tree_schedules.specs.declared.delivery.Delivery.TheVariants.{AnyTime, AtOnce}
use Rattle.world_model.specs.Events.{History, Signal, Message, Exit, LinkExit, Down, Guarded, Elapsed}
use Rattle.world_model.specs.Names.{IsAmong}
use Rattle.world_model.specs.Requests.{Program}
use Rattle.world_model.specs.Run.{enabled_steps, run}
use Rattle.world_model.specs.Signals.{first_of}
use Rattle.world_model.specs.World.{waiting}

-- whether a signal arrives at once, if there is one: each does but that of a timer, which comes at any time
abbrev pub arrives_at_once : Option Signal → Bool
arrives_at_once None = false
arrives_at_once (Some (Message message)) = true
arrives_at_once (Some (Exit reason)) = true
arrives_at_once (Some (LinkExit reason)) = true
arrives_at_once (Some (Down ref reason)) = true
arrives_at_once (Some (Guarded ref message)) = true
arrives_at_once (Some (Elapsed ref message)) = false

-- whether a step delivers a signal that does
abbrev pub is_at_once : History → Step → Bool
is_at_once h (Turn p) = false
is_at_once h (Deliver s r) = arrives_at_once (first_of (waiting h s r))

-- the first of these deliveries alone, or where there is none all steps
abbrev pub first_or_all : List Step → List Step → List Step
first_or_all [] steps = steps
first_or_all (d ∷ deliveries) steps = d ∷ []

-- while a delivery is enabled of a signal that arrives at once, only the first such one in the order of steps may be taken; where none is, each enabled step may be, the deliveries of timers among them
abbrev pub prompt_steps : Program → History → List Step
prompt_steps a h = first_or_all (filter (is_at_once h) (enabled_steps a h)) (enabled_steps a h)

-- so it is: a step may be taken exactly where it is enabled, and where for each enabled delivery of a signal that arrives at once it is such a delivery itself, and does not come after that one
abbrev pub PromptStepsAreLeast : Type 0
PromptStepsAreLeast = (a : Program) (h : History) (x : Step) → IsAmong x (prompt_steps a h)
    ↔ (IsAmong x (enabled_steps a h) × ((d : Step) → IsAmong d (enabled_steps a h) → is_at_once h d ≡ true → (is_at_once h x ≡ true) × (is_gt (order_of_steps x d) ≡ false)))

-- a schedule is prompt where each of its steps is one that may be taken then
abbrev pub IsPrompt : Program → List Step → Type 0
IsPrompt a s = (before after : List Step) (step : Step) (h : History) → s ≡ before ++ (step ∷ after) → run a before ≡ Some h → IsAmong step (prompt_steps a h)

-- ---- by when signals are delivered

-- the steps that may be taken after a history
abbrev pub steps_by : Delivery → Program → History → List Step
steps_by AnyTime a h = enabled_steps a h
steps_by AtOnce a h = prompt_steps a h

-- the signals of a schedule are delivered then: at any time in each, at once in a prompt one
abbrev pub DeliversBy : Delivery → Program → List Step → Type 0
DeliversBy AnyTime a s = Unit {0}
DeliversBy AtOnce a s = IsPrompt a s
