use Rattle.std.proofs.Common.{◌≡◌, take}
use Rattle.search_jobs.proofs.piece.copy_jobs.Given as goal

abbrev pub invariant-loop-job : goal.invariant-loop-job
invariant-loop-job l = l.copied.items ≡ take l.job-index l.jobs
