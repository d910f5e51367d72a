-- What a fault says of a line, where it is one of the text, and of a job, where it is one of the worlds.
use Rattle.std.specs.Prelude.{◌≡◌, ◌<◌, ℕ, List, length}
use Rattle.term_core.specs.declared.step.Step.{Step}
use Rattle.world_model.specs.Events.{History}
use Rattle.world_model.specs.Requests.{Program}
use Rattle.tree_coverage.specs.Jobs.{Job}
use Rattle.search_jobs.specs.Explorations.{ExplorationSeen, program_in}
use Rattle.search_jobs.specs.Reached.{IsJob}
use Rattle.search_job_lines.specs.Faults.{HasNoBar, HasBadStep, HasBadSleeper, IsStoppedAt, IsFirstAwake, IsAwakeAt}
use Rattle.search_job_lines.specs.JobText.{text_of_job, IsLawfulJob}
use Rattle.search_job_lines.specs.Reading.{AreEnabled}
use Rattle.search_job_lines.specs.declared.fault.JobFault.{JobFault}
use Rattle.search_job_lines.specs.declared.fault.JobFault.TheVariants as faults

-- the line is the text of the job
pub record IsTextOf (line : List ℕ) (name : Job) : Type 0 where
  pub text : line ≡ text_of_job name
  pub lawful : IsLawfulJob name

-- the line is the text of none
abbrev pub IsTextFault : List ℕ → JobFault → Type 0
IsTextFault line faults.NoBar = HasNoBar line
IsTextFault line (faults.BadStep at) = HasBadStep line at
IsTextFault line (faults.BadSleeper at) = HasBadSleeper line at
IsTextFault line faults.TooLong = ⊥
IsTextFault line (faults.NotEnabled place) = ⊥
IsTextFault line (faults.NotAsleep place) = ⊥
IsTextFault line faults.Memory = Unit {0}

-- the job is one of the exploration, and what sleeps is enabled
pub record IsTakenName (e : ExplorationSeen) (name : Job) : Type 0 where
  pub is_job : IsJob e name
  pub asleep : AreEnabled (program_in e) is_job.history name.slept

-- or not
abbrev pub IsNameFault : ExplorationSeen → Job → JobFault → Type 0
IsNameFault e name faults.NoBar = ⊥
IsNameFault e name (faults.BadStep at) = ⊥
IsNameFault e name (faults.BadSleeper at) = ⊥
IsNameFault e name faults.TooLong = e.depth < length name.prefix
IsNameFault e name (faults.NotEnabled place) = IsStoppedAt e place name
IsNameFault e name (faults.NotAsleep place) = IsAwakeAt e place name
IsNameFault e name faults.Memory = Unit {0}

-- what sleeps is not enabled in a world with this history
abbrev pub IsSleeperFault : Program → History → List Step → JobFault → Type 0
IsSleeperFault a h slept faults.NoBar = ⊥
IsSleeperFault a h slept (faults.BadStep at) = ⊥
IsSleeperFault a h slept (faults.BadSleeper at) = ⊥
IsSleeperFault a h slept faults.TooLong = ⊥
IsSleeperFault a h slept (faults.NotEnabled place) = ⊥
IsSleeperFault a h slept (faults.NotAsleep place) = IsFirstAwake a h slept place
IsSleeperFault a h slept faults.Memory = Unit {0}
