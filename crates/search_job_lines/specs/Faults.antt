-- What each fault says of a line that is no job's.
use Rattle.std.specs.Prelude.{◌≡◌, ◌<◌, ◌≤◌, ◌+◌, ℕ, false, List, [], ◌∷◌, ◌++◌, length}
use Rattle.term_core.specs.Schedule.{AreLawful, IsFirstBadStep}
use Rattle.term_core.specs.Text.{text_of_schedule}
use Rattle.term_core.specs.declared.step.Step.{Step}
use Rattle.world_core.specs.Advanced.{StopsAt}
use Rattle.world_model.specs.Events.{History}
use Rattle.world_model.specs.Requests.{Program}
use Rattle.world_model.specs.Run.{is_enabled}
use Rattle.tree_coverage.specs.Jobs.{Job}
use Rattle.search_jobs.specs.Explorations.{ExplorationSeen, program_in}
use Rattle.search_jobs.specs.Reached.{IsJob}
use Rattle.search_job_lines.specs.JobText.{bar, text_of_job, IsLawfulJob}
use Rattle.search_job_lines.specs.Reading.{AreEnabled}
use Rattle.search_job_lines.specs.declared.fault.JobFault.{JobFault}
use Rattle.search_job_lines.specs.declared.fault.JobFault.TheVariants as faults

-- ---- lines that are the text of no job

-- no bar is in the line
abbrev pub HasNoBar : List ℕ → Type 0
HasNoBar line = (front behind : List ℕ) → line ≡ front ++ (bar ++ behind) → ⊥

-- these parts come before its first bar and after it
pub record IsCutAtBar (line front behind : List ℕ) : Type 0 where
  pub parts : line ≡ front ++ (bar ++ behind)
  pub is_first : (before after : List ℕ) → line ≡ before ++ (bar ++ after) → length front ≤ length before

-- what comes before the first bar is no schedule: there its first bad step begins, by its byte from 0
pub record HasBadStep (line : List ℕ) (at : ℕ) : Type 0 where
  pub front : List ℕ
  pub behind : List ℕ
  pub cut : IsCutAtBar line front behind
  pub bad : IsFirstBadStep front at

-- a schedule comes before the bar and none after it: there the first bad step begins, by its byte after the bar from 0
pub record HasBadSleeper (line : List ℕ) (at : ℕ) : Type 0 where
  pub steps : List Step
  pub behind : List ℕ
  pub lawful : AreLawful steps
  pub parts : line ≡ text_of_schedule steps ++ (bar ++ behind)
  pub bad : IsFirstBadStep behind at

-- ---- lines that are the text of a job that the exploration does not have

-- the schedule is short enough, and its step of this place, counted from 1, is the first that is not enabled
pub record IsStoppedAt (e : ExplorationSeen) (place : ℕ) (name : Job) : Type 0 where
  pub short : length name.prefix ≤ e.depth
  pub history : History
  pub stops : StopsAt (program_in e) [] name.prefix place history

-- the step of this place, counted from 1, is the first that is not enabled
pub record IsFirstAwake (a : Program) (h : History) (steps : List Step) (place : ℕ) : Type 0 where
  pub before : List Step
  pub step : Step
  pub after : List Step
  pub parts : steps ≡ before ++ step ∷ after
  pub counted : place ≡ length before + 1
  pub enabled : AreEnabled a h before
  pub refused : is_enabled a h step ≡ false

-- the schedule leads to a node, and there the sleeping step of this place, counted from 1, is the first that is not enabled
pub record IsAwakeAt (e : ExplorationSeen) (place : ℕ) (name : Job) : Type 0 where
  pub is_job : IsJob e name
  pub awake : IsFirstAwake (program_in e) is_job.history name.slept place

-- the line is the text of a job for which this is true
pub record IsTextWhere (line : List ℕ) (IsSo : Job → Type 0) : Type 0 where
  pub name : Job
  pub text : line ≡ text_of_job name
  pub lawful : IsLawfulJob name
  pub is_so : IsSo name

-- ---- faults

-- what a fault says of the line
abbrev pub IsJobFault : ExplorationSeen → List ℕ → JobFault → Type 0
IsJobFault e line faults.NoBar = HasNoBar line
IsJobFault e line (faults.BadStep at) = HasBadStep line at
IsJobFault e line (faults.BadSleeper at) = HasBadSleeper line at
IsJobFault e line faults.TooLong = IsTextWhere line (λ name. e.depth < length name.prefix)
IsJobFault e line (faults.NotEnabled place) = IsTextWhere line (IsStoppedAt e place)
IsJobFault e line (faults.NotAsleep place) = IsTextWhere line (IsAwakeAt e place)
IsJobFault e line faults.Memory = Unit {0}
