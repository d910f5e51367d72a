-- What runs of a module in fewer than 2^64 steps take has pids that a text may have.
use Rattle.std.proofs.Common.{◌≡◌, ◌<◌, ◌^◌, true, ℕ, List, [], ◌∷◌, map, length, Some, sym, ap, ◌∙◌, subst, arith}
use Rattle.std.proofs.lemmas.List.{length-map, length-reverse}
use Rattle.std.specs.List.{AllByRecursion}
use Rattle.term_core.specs.Schedule.{IsLawfulPid, IsLawfulStep, AreLawful}
use Rattle.term_core.specs.declared.step.Step.{Step}
use Rattle.term_core.specs.declared.step.Step.TheVariants.{Turn, Deliver}
use Rattle.core_tree.specs.Syntax.{ModuleTree}
use Rattle.world_model.specs.Asking.{program_of}
use Rattle.world_model.specs.Events.{Event, History}
use Rattle.world_model.specs.Names.{Pid}
use Rattle.world_model.specs.Requests.{Program}
use Rattle.world_model.specs.Run.{IsRun, is_enabled, run, schedule_of}
use Rattle.world_model.proofs.Runs.{runs_real}
use Rattle.world_pids.specs.Numbers.{IsNumbered, IsOfNumbered}
use Rattle.world_pids.proofs.Numbered.{schedules_numbered, steps_numbered}

module _ (n : ℕ) (few : n < 2 ^ 64) where
  lawful_pid : (p : Pid) → IsNumbered n p → IsLawfulPid p
  lawful_pid [] h = tt
  lawful_pid (k ∷ p) h = ((h.0.0, omega (arith, h.0.1, few)), lawful_pid p h.1)

  lawful_step : (s : Step) → IsOfNumbered n s → IsLawfulStep s
  lawful_step (Turn p) h = lawful_pid p h
  lawful_step (Deliver s r) h = (lawful_pid s h.0, lawful_pid r h.1)

  lawful_steps : (steps : List Step) → AllByRecursion (IsOfNumbered n) steps → AreLawful steps
  lawful_steps [] h = tt
  lawful_steps (s ∷ steps) h = (lawful_step s h.0, lawful_steps steps h.1)

-- a schedule has as many steps as there are events
pub events_of : (a : Program) (steps : List Step) (h : History) → run a steps ≡ Some h → length h ≡ length steps
events_of a steps h now =
    sym (length-map h (λ (e : Event). e.step)) ∙ sym (length-reverse (map (λ (e : Event). e.step) h)) ∙ ap length (runs_real a steps h now).1

-- a step that is enabled
pub enabled_lawful : (m : ModuleTree) (h : History) (s : Step) → IsRun (program_of m) h → length h < 2 ^ 64 → is_enabled (program_of m) h s ≡ true → IsLawfulStep s
enabled_lawful m h s real few now = lawful_step (length h) few s (steps_numbered m h s real now)

-- the steps that were taken
pub taken_lawful : (m : ModuleTree) (h : History) → IsRun (program_of m) h → length h < 2 ^ 64 → AreLawful (schedule_of h)
taken_lawful m h real few = lawful_steps (length h) few (schedule_of h) (schedules_numbered m h real)

-- a schedule that runs
pub schedule_lawful : (m : ModuleTree) (steps : List Step) (h : History) → run (program_of m) steps ≡ Some h → length steps < 2 ^ 64 → AreLawful steps
schedule_lawful m steps h now few =
    let real = runs_real (program_of m) steps h now in
    let long = events_of (program_of m) steps h now in
    subst AreLawful real.1 (taken_lawful m h real.0 (omega (arith, long, few)))
