use Rattle.std.proofs.Common.{[], ◌∙◌, ap, sym, append-nil}
use Rattle.std.proofs.lemmas.Result.{err_from_is_err_and}
use Rattle.term_core.specs.Text.{text_of_step, behind_blank, text_of_schedule}
use Rattle.term_core.proofs.Texts.{text_of_schedule-cons}
use Rattle.term_core.specs.inside.Writing.{owes_all, owes_less, owes_break_in, owes_same, owes_item, breaks_at}
use Rattle.term_core.proofs.text.write_schedule.Goals as goal

pub returns-in_err-write_step : goal.returns-in_err-write_step
returns-in_err-write_step g c =
    let p = err_from_is_err_and c.from_residual.result c.from_residual.ensures.1 in
    let o = owes_same _ _ _ _ _ (ap text_of_schedule c.in-Some.ensures.cases.0 ∙ text_of_schedule-cons c.in-Some.first.now c.in-Some.others.now) (owes_all _ _) in
    breaks_at _ _ _ _ _ _ p.1 (owes_break_in _ _ _ _ (text_of_step c.in-Some.first.now) _ _ o c.in_err-write_step.ensures)

pub loop-step-init : goal.loop-step-init
loop-step-init g c =
    let o = owes_same _ _ _ _ _ (ap text_of_schedule c.in-Some.ensures.cases.0 ∙ text_of_schedule-cons c.in-Some.first.now c.in-Some.others.now) (owes_all _ _) in
    let w = c.in_ok-write_step.ensures in
    (w.sound, owes_same _ _ _ _ _ (sym (append-nil _)) (owes_less _ _ _ (text_of_step c.in-Some.first.now) _ _ o w.appends))

pub returns-in_err-write_next_step : goal.returns-in_err-write_next_step
returns-in_err-write_next_step g c =
    let p = err_from_is_err_and c.from_residual-in_err-write_next_step.result c.from_residual-in_err-write_next_step.ensures.1 in
    let o = owes_item behind_blank _ _ _ _ _ _ [] _ c.loop-step-test.true c.step-item.is c.loop-step.invariant.1 in
    breaks_at _ _ _ _ _ _ p.1 (owes_break_in _ _ _ _ _ _ _ o c.in_err-write_next_step.ensures)

pub loop-step-preserved : goal.loop-step-preserved
loop-step-preserved g c =
    let w = c.in_ok-write_next_step.ensures in
    let o = owes_item behind_blank _ _ _ _ _ _ [] _ c.loop-step-test.true c.step-item.is c.loop-step.invariant.1 in
    (w.sound, owes_less _ _ _ _ _ _ o w.appends)
