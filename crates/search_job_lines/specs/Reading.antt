-- Which lines are those of jobs.
use Rattle.std.specs.Prelude.{◌≡◌, ℕ, true, List}
use Rattle.term_core.specs.declared.step.Step.{Step}
use Rattle.world_model.specs.Events.{History}
use Rattle.world_model.specs.Names.{IsAmong}
use Rattle.world_model.specs.Requests.{Program}
use Rattle.world_model.specs.Run.{is_enabled}
use Rattle.tree_coverage.specs.Jobs.{Job}
use Rattle.search_jobs.specs.Explorations.{ExplorationSeen, program_in}
use Rattle.search_jobs.specs.Reached.{IsJob}
use Rattle.search_job_lines.specs.JobText.{text_of_job, IsLawfulJob}

-- each of the steps is enabled
abbrev pub AreEnabled : Program → History → List Step → Type 0
AreEnabled a h steps = (s : Step) → IsAmong s steps → is_enabled a h s ≡ true

-- the line is the text of a job of the exploration, and each step that sleeps is enabled after its schedule
pub record IsJobLine (e : ExplorationSeen) (line : List ℕ) (name : Job) : Type 0 where
  pub text : line ≡ text_of_job name
  pub lawful : IsLawfulJob name
  pub is_job : IsJob e name
  pub asleep : AreEnabled (program_in e) is_job.history name.slept
