-- Schedules that share their beginnings, as lists of steps.
use Rattle.std.specs.Prelude.{List, [], reverse}
use Rattle.term_core.specs.declared.step.Step.{Step}
use Rattle.search_levels.specs.declared.path.Path.{Path}
use Rattle.search_levels.specs.declared.path.Path.TheVariants.{Start, Then}

-- the steps, the latest one first
abbrev pub latest_first : Path → List Step
latest_first Start = []
latest_first (Then link) = link.value

-- the schedule
abbrev pub schedule_in : Path → List Step
schedule_in path = reverse (latest_first path)
