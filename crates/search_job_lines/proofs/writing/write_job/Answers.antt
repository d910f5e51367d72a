use Rattle.std.proofs.Common.{◌≡◌, refl, ap, ◌∙◌}
use Rattle.std.proofs.lemmas.Result.{err_from_is_err_and}
use Rattle.tree_coverage.specs.Jobs.{Job}
use Rattle.term_core.specs.Text.{text_of_schedule}
use Rattle.term_core.specs.inside.Writing.{breaks_at, owes_all, owes_break_in, owes_less, owes_same, writes_last}
use Rattle.search_job_lines.specs.JobText.{bar}
use Rattle.search_job_lines.proofs.Lines.{line_owed}
use Rattle.search_job_lines.proofs.writing.write_job.Goals as goal

pub returns-in_err-write_schedule : goal.returns-in_err-write_schedule
returns-in_err-write_schedule g c =
    let p = err_from_is_err_and c.from_residual.result c.from_residual.ensures.1 in
    let prefix : c.as_slice.result.now ≡ c.args.job.now.prefix = c.as_slice.ensures.value ∙ ap (λ (j : Job). j.prefix) c.job.view_is in
    let o = owes_same _ _ _ _ _ (line_owed c.args.job.now c.as_slice.result.now c.args.job.now.slept prefix refl) (owes_all _ _) in
    breaks_at _ _ _ _ _ _ p.1 (owes_break_in _ _ _ _ (text_of_schedule c.as_slice.result.now) _ _ o c.in_err-write_schedule.ensures)

pub returns-in_err-write_all : goal.returns-in_err-write_all
returns-in_err-write_all g c =
    let p = err_from_is_err_and c.from_residual-in_err-write_all.result c.from_residual-in_err-write_all.ensures.1 in
    let prefix : c.as_slice.result.now ≡ c.args.job.now.prefix = c.as_slice.ensures.value ∙ ap (λ (j : Job). j.prefix) c.job.view_is in
    let o = owes_same _ _ _ _ _ (line_owed c.args.job.now c.as_slice.result.now c.args.job.now.slept prefix refl) (owes_all _ _) in
    let o1 = owes_less _ _ _ (text_of_schedule c.as_slice.result.now) _ _ o c.in_ok-write_schedule.ensures.appends in
    breaks_at _ _ _ _ _ _ p.1 (owes_break_in _ _ _ _ bar _ _ o1 c.in_err-write_all.ensures)

pub returns-in_err-write_schedule-2 : goal.returns-in_err-write_schedule-2
returns-in_err-write_schedule-2 g c =
    let p = err_from_is_err_and c.from_residual-in_err-write_schedule-2.result c.from_residual-in_err-write_schedule-2.ensures.1 in
    let prefix : c.as_slice.result.now ≡ c.args.job.now.prefix = c.as_slice.ensures.value ∙ ap (λ (j : Job). j.prefix) c.job.view_is in
    let slept : c.as_slice-2.result.now ≡ c.args.job.now.slept = c.as_slice-2.ensures.value ∙ ap (λ (j : Job). j.slept) c.job.view_is in
    let o = owes_same _ _ _ _ _ (line_owed c.args.job.now c.as_slice.result.now c.as_slice-2.result.now prefix slept) (owes_all _ _) in
    let o1 = owes_less _ _ _ (text_of_schedule c.as_slice.result.now) _ _ o c.in_ok-write_schedule.ensures.appends in
    let o2 = owes_less _ _ _ bar _ _ o1 c.in_ok-write_all.ensures.appends in
    breaks_at _ _ _ _ _ _ p.1 (owes_break_in _ _ _ _ (text_of_schedule c.as_slice-2.result.now) _ _ o2 c.in_err-write_schedule-2.ensures)

pub returns : goal.returns
returns g c =
    let prefix : c.as_slice.result.now ≡ c.args.job.now.prefix = c.as_slice.ensures.value ∙ ap (λ (j : Job). j.prefix) c.job.view_is in
    let slept : c.as_slice-2.result.now ≡ c.args.job.now.slept = c.as_slice-2.ensures.value ∙ ap (λ (j : Job). j.slept) c.job.view_is in
    let o = owes_same _ _ _ _ _ (line_owed c.args.job.now c.as_slice.result.now c.as_slice-2.result.now prefix slept) (owes_all _ _) in
    let o1 = owes_less _ _ _ (text_of_schedule c.as_slice.result.now) _ _ o c.in_ok-write_schedule.ensures.appends in
    let o2 = owes_less _ _ _ bar _ _ o1 c.in_ok-write_all.ensures.appends in
    let o3 = owes_less _ _ _ (text_of_schedule c.as_slice-2.result.now) _ _ o2 c.in_ok-write_schedule-2.ensures.appends in
    writes_last _ _ _ _ _ _ _ o3 c.write_all-2.ensures
