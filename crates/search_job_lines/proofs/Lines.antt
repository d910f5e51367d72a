-- The line of a job, in the pieces in which it is written.
use Rattle.std.proofs.Common.{◌≡◌, ℕ, List, [], ◌∷◌, ◌++◌, ap, sym, ◌∙◌, append_assoc}
use Rattle.term_core.specs.Text.{text_of_schedule}
use Rattle.term_core.specs.declared.step.Step.{Step}
use Rattle.tree_coverage.specs.Jobs.{Job}
use Rattle.search_job_lines.specs.JobText.{bar, text_of_job}

pub line_owed : (job : Job) (prefix slept : List Step) → prefix ≡ job.prefix → slept ≡ job.slept → text_of_job job ++ 10 ∷ [] ≡ text_of_schedule prefix ++ (bar ++ (text_of_schedule slept ++ 10 ∷ []))
line_owed job prefix slept is asleep =
    append_assoc (text_of_schedule job.prefix) (bar ++ text_of_schedule job.slept) (10 ∷ [])
    ∙ ap (λ w. text_of_schedule job.prefix ++ w) (append_assoc bar (text_of_schedule job.slept) (10 ∷ []))
    ∙ (λ i. text_of_schedule (sym is i) ++ (bar ++ (text_of_schedule (sym asleep i) ++ 10 ∷ [])))
