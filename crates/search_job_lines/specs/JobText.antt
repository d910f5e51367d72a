-- The texts of jobs, as bytes.
use Rattle.std.specs.List.{flat_map}
use Rattle.std.specs.Prelude.{ℕ, List, [], ◌∷◌, ◌++◌, codes}
use Rattle.term_core.specs.Schedule.{AreLawful}
use Rattle.term_core.specs.Text.{text_of_schedule}
use Rattle.tree_coverage.specs.Jobs.{Job}

-- what is between the schedule of a job and the steps that sleep
abbrev pub bar : List ℕ
bar = codes " | "

-- the text of the schedule, the bar, and the text of the steps that sleep
abbrev pub text_of_job : Job → List ℕ
text_of_job job = text_of_schedule job.prefix ++ (bar ++ text_of_schedule job.slept)

-- each job on a line of its own, with its end
abbrev pub text_of_jobs : List Job → List ℕ
text_of_jobs jobs = flat_map (λ job. text_of_job job ++ 10 ∷ []) jobs

-- the numbers of all pids of a job are those that a text may have
abbrev pub IsLawfulJob : Job → Type 0
IsLawfulJob job = AreLawful job.prefix × AreLawful job.slept
