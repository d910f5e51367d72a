use Rattle.std.proofs.Common.{◌≡◌, ◌++◌, length}
use Rattle.tree_coverage.specs.Jobs.{jobs_along}
use Rattle.world_core.specs.Seen.{program_in}
use Rattle.search_job_lines.proofs.levels.push_along.Given as goal

-- the jobs of the steps so far were added
abbrev pub invariant-loop-step : goal.invariant-loop-step
invariant-loop-step l =
    l.jobs.items ++ jobs_along (program_in l.world) l.world.history l.prefix l.sleeping.items l.rest ≡ l.fn.jobs.items ++ jobs_along (program_in l.world) l.world.history l.prefix l.slept l.line

abbrev pub decreases-loop-step : goal.decreases-loop-step
decreases-loop-step l = length l.rest
