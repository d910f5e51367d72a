use Rattle.std.proofs.Common.{◌≡◌, ◌++◌, drop}
use Rattle.tree_levels.specs.Levels.{next_of_all}
use Rattle.world_model.specs.Asking.{program_of}
use Rattle.search_job_lines.proofs.levels.next_of_all.Given as goal

-- the jobs below those so far were added
abbrev pub invariant-loop-job : goal.invariant-loop-job
invariant-loop-job l = l.next.items ++ next_of_all (program_of l.program) (drop l.job-index l.jobs) ≡ next_of_all (program_of l.program) l.jobs
