use Rattle.std.proofs.Common.{◌≡◌, [], ◌∷◌, ◌++◌, false, drop}
use Rattle.std.specs.List.{flat_map}
use Rattle.term_core.specs.inside.Writing.{Owes}
use Rattle.search_job_lines.specs.JobText.{text_of_job, text_of_jobs}
use Rattle.search_job_lines.proofs.writing.write_jobs.Given as goal

-- the sink is sound, and the jobs that are left are still to be written
abbrev pub invariant-loop-job : goal.invariant-loop-job
invariant-loop-job g l =
    (g.W.Sink.has_failed l.sink ≡ false) × Owes (g.W.Sink.contents l.fn.sink) (g.W.Sink.contents l.sink) (flat_map (λ job. text_of_job job ++ 10 ∷ []) (drop l.job-index l.jobs) ++ []) (text_of_jobs l.fn.jobs)
