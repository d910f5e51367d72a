-- What the laws of steps and schedules say.
use Rattle.std.specs.Prelude.{◌≡◌, ◌∷◌, List, [], true, Some}
use Rattle.std.specs.declared.cmp.Ordering.TheVariants.{Less}
use Rattle.term_core.specs.StepOrder.{order_of_steps}
use Rattle.term_core.specs.declared.step.Step.{Step}
use Rattle.world_model.specs.Events.{History}
use Rattle.world_model.specs.Names.{IsAmong}
use Rattle.world_model.specs.Requests.{Program}
use Rattle.world_model.specs.Run.{is_enabled, enabled_steps, IsRun, run, schedule_of}

-- steps in their order, each once: each comes before all that follow it
abbrev pub ComesBefore : Step → List Step → Type 0
ComesBefore step [] = Unit {0}
ComesBefore step (next ∷ steps) = (order_of_steps step next ≡ Less) × ComesBefore step steps

abbrev pub AreInOrder : List Step → Type 0
AreInOrder [] = Unit {0}
AreInOrder (step ∷ steps) = ComesBefore step steps × AreInOrder steps

-- a step that is enabled is one of those that are listed, and the other way round
abbrev pub EnabledAreListed : Type 0
EnabledAreListed = (a : Program) (h : History) (step : Step) → is_enabled a h step ≡ true → IsAmong step (enabled_steps a h)

abbrev pub ListedAreEnabled : Type 0
ListedAreEnabled = (a : Program) (h : History) (step : Step) → IsAmong step (enabled_steps a h) → is_enabled a h step ≡ true

abbrev pub AreListedInOrder : Type 0
AreListedInOrder = (a : Program) (h : History) → AreInOrder (enabled_steps a h)

-- what really happened is the history of its schedule
abbrev pub IsRunOfSchedule : Type 0
IsRunOfSchedule = (a : Program) (h : History) → IsRun a h → run a (schedule_of h) ≡ Some h

-- and the history of a schedule is what really happened by it
abbrev pub RunsAreReal : Type 0
RunsAreReal = (a : Program) (steps : List Step) (h : History) → run a steps ≡ Some h → IsRun a h × (schedule_of h ≡ steps)
