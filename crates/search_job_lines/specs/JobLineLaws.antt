-- What the laws of the lines of jobs say.
use Rattle.std.specs.Prelude.{◌≡◌, ◌≤◌, ◌<◌, ◌^◌, ℕ, List}
use Rattle.world_model.specs.Names.{IsAmong}
use Rattle.tree_coverage.specs.Jobs.{Job}
use Rattle.search_jobs.specs.Explorations.{ExplorationSeen, program_in}
use Rattle.tree_levels.specs.Levels.{jobs_at}
use Rattle.search_job_lines.specs.JobText.{text_of_job, IsLawfulJob}
use Rattle.search_job_lines.specs.Reading.{IsJobLine}

-- a line is the text of at most one job
abbrev pub LinesSayOneJob : Type 0
LinesSayOneJob = (line : List ℕ) (name other : Job) → IsLawfulJob name → IsLawfulJob other → line ≡ text_of_job name → line ≡ text_of_job other → name ≡ other

-- the text of each job at a depth of the tree is the line of that job
abbrev pub OwnTextsAreJobLines : Type 0
OwnTextsAreJobLines = (e : ExplorationSeen) (d : ℕ) (name : Job) → e.depth < 2 ^ 64 → d ≤ e.depth → IsAmong name (jobs_at (program_in e) d) → IsJobLine e (text_of_job name) name
