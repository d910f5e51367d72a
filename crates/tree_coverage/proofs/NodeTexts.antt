-- The schedule of each node runs, and each step that is taken there is enabled: so their pids are such as texts may have.
use Rattle.std.proofs.Common.{◌≡◌, ℕ, zero, suc, ◌+◌, ◌-◌, ◌≤◌, ◌<◌, ◌^◌, true, not, List, [], ◌∷◌, ◌++◌, length, Option, Some, None, refl, ap, ◌∙◌, arith}
use Rattle.std.proofs.lemmas.List.{length_push}
use Rattle.std.specs.List.{AllByRecursion}
use Rattle.core_tree.specs.Syntax.{ModuleTree}
use Rattle.term_core.proofs.Pieces.{all-append}
use Rattle.term_core.specs.Schedule.{IsLawfulStep, AreLawful}
use Rattle.term_core.specs.declared.step.Step.{Step}
use Rattle.world_model.specs.Asking.{program_of}
use Rattle.world_model.specs.Events.{Event, History}
use Rattle.world_model.specs.Requests.{Program}
use Rattle.world_model.specs.Run.{next_event, is_enabled, enabled_steps, extended, run}
use Rattle.world_model.proofs.Opened.{listed_enabled}
use Rattle.world_model.proofs.Runs.{runs_real}
use Rattle.world_pids.proofs.Texts.{enabled_lawful, events_of, schedule_lawful}
use Rattle.tree_coverage.specs.Covers.{is_one_of}
use Rattle.tree_coverage.specs.Jobs.{Job, asleep_below, awake_steps, taken_steps, nodes_after, nodes_along, nodes_from, nodes_behind, steps_left}
use Rattle.tree_coverage.specs.NodeTexts.{IsLawfulNode, NodesHaveTexts}
use Rattle.tree_coverage.proofs.JobLaws.{one_more}
use Rattle.tree_coverage.proofs.Lists.{all_among, kept_passes}

module _ (m : ModuleTree) (n : ℕ) (fits : n < 2 ^ 64) where
  abbrev a : Program
  a = program_of m

  -- ---- at one node

  lawful_schedule : (h : History) (schedule : List Step) (k : ℕ) → run a schedule ≡ Some h → length schedule + k ≤ n → AreLawful schedule
  lawful_schedule h schedule k now within = schedule_lawful m schedule h now (omega (arith, within, fits))

  lawful_enabled : (h : History) (schedule : List Step) (k : ℕ) → run a schedule ≡ Some h → length schedule + k ≤ n → (s : Step) → is_enabled a h s ≡ true → IsLawfulStep s
  lawful_enabled h schedule k now within s enabled =
      let long = events_of a schedule h now in
      enabled_lawful m h s (runs_real a schedule h now).0 (omega (arith, long, within, fits)) enabled

  lawful_awake : (h : History) (schedule slept : List Step) (k : ℕ) → run a schedule ≡ Some h → length schedule + k ≤ n → AreLawful (awake_steps a h slept)
  lawful_awake h schedule slept k now within =
      all_among IsLawfulStep (awake_steps a h slept) (λ s there. lawful_enabled h schedule k now within s (listed_enabled a h s (kept_passes (λ t. not (is_one_of slept t)) (enabled_steps a h) s there).1))

  lawful_taken : (h : History) (schedule slept : List Step) (k : ℕ) → run a schedule ≡ Some h → length schedule + k ≤ n → AreLawful (taken_steps a k h slept)
  lawful_taken h schedule slept zero now within = tt
  lawful_taken h schedule slept (suc k) now within = lawful_awake h schedule slept (suc k) now within

  -- ---- at those below it

  abbrev AreFrom : ℕ → Type 0
  AreFrom k = (h : History) (schedule slept : List Step) → run a schedule ≡ Some h → length schedule + k ≤ n → AllByRecursion IsLawfulNode (nodes_from a k h schedule slept)

  one_deeper : (schedule : List Step) (s : Step) (k : ℕ) → length schedule + suc k ≤ n → length (schedule ++ s ∷ []) + k ≤ n
  one_deeper schedule s k within = omega (arith, length_push schedule s, within)

  lawful_after : (k : ℕ) → AreFrom k → (h : History) (schedule slept : List Step) (s : Step) (o : Option Event) → next_event a h s ≡ o → run a schedule ≡ Some h → length schedule + suc k ≤ n → AllByRecursion IsLawfulNode (nodes_after (λ g. nodes_from a k g (schedule ++ s ∷ []) slept) h o)
  lawful_after k below h schedule slept s None is now within = tt
  lawful_after k below h schedule slept s (Some e) is now within =
      below (e ∷ h) (schedule ++ s ∷ []) slept (one_more a schedule h s now ∙ ap (extended h) is) (one_deeper schedule s k within)

  lawful_along : (k : ℕ) → AreFrom k → (h : History) (schedule slept steps : List Step) → run a schedule ≡ Some h → length schedule + suc k ≤ n → AllByRecursion IsLawfulNode (nodes_along (nodes_from a k) a h schedule slept steps)
  lawful_along k below h schedule slept [] now within = tt
  lawful_along k below h schedule slept (s ∷ steps) now within =
      all-append IsLawfulNode (nodes_after (λ g. nodes_from a k g (schedule ++ s ∷ []) (asleep_below a h slept s)) h (next_event a h s)) (nodes_along (nodes_from a k) a h schedule (slept ++ s ∷ []) steps)
      (lawful_after k below h schedule (asleep_below a h slept s) s (next_event a h s) refl now within)
      (lawful_along k below h schedule (slept ++ s ∷ []) steps now within)

  lawful_from : (k : ℕ) → AreFrom k
  lawful_from zero h schedule slept now within = ((lawful_schedule h schedule zero now within, tt), tt)
  lawful_from (suc k) h schedule slept now within =
      ((lawful_schedule h schedule (suc k) now within, lawful_awake h schedule slept (suc k) now within), lawful_along k (lawful_from k) h schedule slept (awake_steps a h slept) now within)

  -- ---- at those of a job

  left_within : (k : ℕ) → k ≤ n → k + (n - k) ≤ n
  left_within k short = omega (arith, short)

  lawful_behind : (job : Job) (o : Option History) → run a job.prefix ≡ o → length job.prefix ≤ n → AllByRecursion IsLawfulNode (nodes_behind a (steps_left n job) job o)
  lawful_behind job None now short = tt
  lawful_behind job (Some h) now short = lawful_from (steps_left n job) h job.prefix job.slept now (left_within (length job.prefix) short)

pub nodes_have_texts : NodesHaveTexts
nodes_have_texts m n job fits short = lawful_behind m n fits job (run (program_of m) job.prefix) refl short
