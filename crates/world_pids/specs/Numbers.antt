-- Which numbers the pids of a run have: each is that of a turn, so that it is from 1 to the number of events.
use Rattle.std.specs.List.{AllByRecursion}
use Rattle.std.specs.Prelude.{◌≡◌, ◌≤◌, ℕ, length, true}
use Rattle.core_tree.specs.Syntax.{ModuleTree}
use Rattle.term_core.specs.declared.step.Step.{Step}
use Rattle.term_core.specs.declared.step.Step.TheVariants.{Turn, Deliver}
use Rattle.world_model.specs.Asking.{program_of}
use Rattle.world_model.specs.Events.{History}
use Rattle.world_model.specs.Names.{Pid}
use Rattle.world_model.specs.Requests.{Program}
use Rattle.world_model.specs.Run.{IsRun, is_enabled, schedule_of}
use Rattle.world_model.specs.World.{alive}

-- each number of the pid is from 1 to n
abbrev pub IsNumbered : ℕ → Pid → Type 0
IsNumbered n p = AllByRecursion (λ k. (1 ≤ k) × (k ≤ n)) p

-- each pid of the step is such a one
abbrev pub IsOfNumbered : ℕ → Step → Type 0
IsOfNumbered n (Turn p) = IsNumbered n p
IsOfNumbered n (Deliver s r) = IsNumbered n s × IsNumbered n r

-- a process that lives has numbers from 1 to that of the events
abbrev pub LivingAreNumbered : Type 0
LivingAreNumbered = (a : Program) (h : History) (p : Pid) → IsRun a h → alive h p ≡ true → IsNumbered (length h) p

-- of a module, so has each process of a step that is enabled: also one that is gone, which answers a link or a watch, is one that lived; and the sender that a timer is has the number of the turn that started it
abbrev pub StepsAreNumbered : Type 0
StepsAreNumbered = (m : ModuleTree) (h : History) (step : Step) → IsRun (program_of m) h → is_enabled (program_of m) h step ≡ true → IsOfNumbered (length h) step

-- and each process of the steps that were taken
abbrev pub SchedulesAreNumbered : Type 0
SchedulesAreNumbered = (m : ModuleTree) (h : History) → IsRun (program_of m) h → AllByRecursion (IsOfNumbered (length h)) (schedule_of h)
