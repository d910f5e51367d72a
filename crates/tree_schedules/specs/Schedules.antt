-- All schedules, and what they show.
use Rattle.std.specs.Ordering.{is_gt}
use Rattle.std.specs.Prelude.{◌≡◌, ◌≤◌, ◌↔◌, ℕ, true, false, List, [], length, map, Some}
use Rattle.term_core.specs.StepOrder.{order_of_schedules}
use Rattle.term_core.specs.declared.step.Step.{Step}
use Rattle.tree_coverage.specs.Explored.{explored}
use Rattle.tree_coverage.specs.Findings.{Finding, Findings, IsFound, findings_among, findings_of}
use Rattle.tree_coverage.specs.Shown.{IsShown, RunShows}
use Rattle.tree_cuts.specs.Cuts.{IsEverShown}
use Rattle.tree_schedules.specs.Deliveries.{DeliversBy, IsPrompt, steps_by}
use Rattle.tree_schedules.specs.declared.delivery.Delivery.{Delivery}
use Rattle.tree_schedules.specs.declared.delivery.Delivery.TheVariants.{AnyTime, AtOnce}
use Rattle.tree_sleep_sets.specs.Nodes.{paths}
use Rattle.tree_sleep_sets.specs.Tree.{Plan}
use Rattle.world_model.specs.Events.{History}
use Rattle.world_model.specs.Names.{IsAmong}
use Rattle.world_model.specs.Requests.{Program}
use Rattle.world_model.specs.Run.{run}
use Rattle.world_model.specs.Shown.{Flags, Identity, is_error, is_refusal}

-- each step that may be taken is, and none sleeps
abbrev pub all_taken : Delivery → (a : Program) → Plan (explored a)
all_taken d a = record { Place = Unit {0}; line = λ x h slept. map (λ s. (s, tt)) (steps_by d a h) }

-- all schedules of at most so many steps, each before those that go on from it
abbrev pub all_schedules : Delivery → Program → ℕ → List (List Step)
all_schedules d a n = paths (explored a) (all_taken d a) n tt [] []

-- a schedule has at most so many steps, delivers signals then, and runs
abbrev pub IsRunBy : Delivery → Program → ℕ → List Step → Type 0
IsRunBy d a n s = (length s ≤ n) × DeliversBy d a s × (h : History) × (run a s ≡ Some h)

-- these are the schedules that do
abbrev pub AllAreListed : Type 0
AllAreListed = (d : Delivery) (a : Program) (n : ℕ) (s : List Step) → IsAmong s (all_schedules d a n) ↔ IsRunBy d a n s

-- ---- what they show

-- some prompt schedule of at most so many steps shows it
abbrev pub IsShownPromptly : Program → ℕ → Identity → Type 0
IsShownPromptly a n i = (s : List Step) × (length s ≤ n) × IsPrompt a s × RunShows a s i

-- some schedule of at most so many steps shows it, of all or of those that are prompt
abbrev pub IsShownBy : Delivery → Program → ℕ → Identity → Type 0
IsShownBy AnyTime a n i = IsShown a n i
IsShownBy AtOnce a n i = IsShownPromptly a n i

-- some prompt schedule shows it, of whatever length
abbrev pub IsEverShownPromptly : Program → Identity → Type 0
IsEverShownPromptly a i = (s : List Step) × IsPrompt a s × RunShows a s i

abbrev pub IsEverShownBy : Delivery → Program → Identity → Type 0
IsEverShownBy AnyTime a i = IsEverShown a i
IsEverShownBy AtOnce a i = IsEverShownPromptly a i

-- ---- what is found

-- what all schedules show
abbrev pub findings_of_all : Flags → Delivery → Program → ℕ → Findings
findings_of_all flags d a n = findings_among flags a (all_schedules d a n)

-- an error is found exactly where some schedule of at most so many steps shows it, and a refusal
abbrev pub ErrorsAreOfAll : Type 0
ErrorsAreOfAll = (flags : Flags) (d : Delivery) (a : Program) (n : ℕ) (i : Identity) → IsFound i (findings_of_all flags d a n).errors ↔ ((is_error flags i ≡ true) × IsShownBy d a n i)

abbrev pub RefusalsAreOfAll : Type 0
RefusalsAreOfAll = (flags : Flags) (d : Delivery) (a : Program) (n : ℕ) (i : Identity) → IsFound i (findings_of_all flags d a n).refusals ↔ ((is_refusal i ≡ true) × IsShownBy d a n i)

-- the schedule delivers signals then and shows the identity, and no schedule of at most so many steps that does is less
pub record IsLeastOfAll (d : Delivery) (a : Program) (n : ℕ) (f : Finding) : Type 0 where
  pub within : length f.schedule ≤ n
  pub delivers : DeliversBy d a f.schedule
  pub shows : RunShows a f.schedule f.identity
  pub is_least : (s : List Step) → length s ≤ n → DeliversBy d a s → RunShows a s f.identity → is_gt (order_of_schedules f.schedule s) ≡ false

-- so it is with each finding
abbrev pub ErrorsAreLeast : Type 0
ErrorsAreLeast = (flags : Flags) (d : Delivery) (a : Program) (n : ℕ) (f : Finding) → IsAmong f (findings_of_all flags d a n).errors → IsLeastOfAll d a n f

abbrev pub RefusalsAreLeast : Type 0
RefusalsAreLeast = (flags : Flags) (d : Delivery) (a : Program) (n : ℕ) (f : Finding) → IsAmong f (findings_of_all flags d a n).refusals → IsLeastOfAll d a n f

-- the tree of the search by sleep sets shows the same as all schedules
abbrev pub TreesFindTheSame : Type 0
TreesFindTheSame = (flags : Flags) (a : Program) (n : ℕ) (i : Identity) → IsFound i (findings_of flags a n).errors ↔ IsFound i (findings_of_all flags AnyTime a n).errors

-- a prompt schedule is a schedule: what prompt ones show is found among all
abbrev pub PromptErrorsAreErrors : Type 0
PromptErrorsAreErrors = (flags : Flags) (a : Program) (n : ℕ) (i : Identity) → IsFound i (findings_of_all flags AtOnce a n).errors → IsFound i (findings_of_all flags AnyTime a n).errors
