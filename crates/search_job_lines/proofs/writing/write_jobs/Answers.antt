use Rattle.std.proofs.Common.{[], ◌∷◌, ◌++◌, sym, append-nil}
use Rattle.std.proofs.lemmas.Result.{err_from_is_err_and}
use Rattle.term_core.specs.inside.Writing.{breaks_at, owes_all, owes_break_in, owes_item, owes_items_end, owes_less, owes_nothing, owes_same}
use Rattle.search_job_lines.specs.JobText.{text_of_job}
use Rattle.search_job_lines.proofs.writing.write_jobs.Goals as goal

pub loop-job-init : goal.loop-job-init
loop-job-init g c = (c.requires, owes_same _ _ _ _ _ (sym (append-nil _)) (owes_all _ _))

pub returns-in_err-write_job : goal.returns-in_err-write_job
returns-in_err-write_job g c =
    let p = err_from_is_err_and c.from_residual.result c.from_residual.ensures.1 in
    let o = owes_item (λ job. text_of_job job ++ 10 ∷ []) _ _ _ _ _ _ [] _ c.loop-job-test.true c.job-item.is c.loop-job.invariant.1 in
    breaks_at _ _ _ _ _ _ p.1 (owes_break_in _ _ _ _ _ _ _ o c.in_err-write_job.ensures)

pub loop-job-preserved : goal.loop-job-preserved
loop-job-preserved g c =
    let w = c.in_ok-write_job.ensures in
    let o = owes_item (λ job. text_of_job job ++ 10 ∷ []) _ _ _ _ _ _ [] _ c.loop-job-test.true c.job-item.is c.loop-job.invariant.1 in
    (w.sound, owes_less _ _ _ _ _ _ o w.appends)

pub returns : goal.returns
returns g c =
    owes_nothing _ _ _ _ (owes_items_end (λ job. text_of_job job ++ 10 ∷ []) _ _ _ _ [] _ c.loop-job-test.false c.loop-job.invariant.1) c.loop-job.invariant.0
