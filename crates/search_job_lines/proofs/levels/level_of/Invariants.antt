use Rattle.std.proofs.Common.{◌≡◌, ◌≤◌, ◌-◌}
use Rattle.tree_levels.specs.Levels.{jobs_at}
use Rattle.world_model.specs.Asking.{program_of}
use Rattle.search_job_lines.proofs.levels.level_of.Given as goal

-- they are those of this depth
abbrev pub invariant-levels : goal.invariant-levels
invariant-levels l = record {
  jobs : l.jobs.items ≡ jobs_at (program_of l.program) l.level;
  within : l.level ≤ l.depth;
}

abbrev pub decreases-levels : goal.decreases-levels
decreases-levels l = l.depth - l.level
