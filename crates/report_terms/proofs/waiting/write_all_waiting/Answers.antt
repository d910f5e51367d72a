use Rattle.std.proofs.Common.{ap, ◌∙◌}
use Rattle.std.specs.Prelude.{Err}
use Rattle.std.proofs.lemmas.Result.{err_from_is_err_and}
use Rattle.term_core.specs.inside.Writing.{owes_less, owes_same, owes_nothing}
use Rattle.report_explained.proofs.Parts.{part_fails}
use Rattle.report_terms.proofs.WaitingTexts.{waiting-item, waiting-end}
use Rattle.report_terms.proofs.waiting.write_all_waiting.Goals as goal

pub returns-in_err-write_waiting : goal.returns-in_err-write_waiting
returns-in_err-write_waiting g c =
    let p = err_from_is_err_and c.from_residual.result c.from_residual.ensures.1 in
    let o = owes_same _ _ _ _ _ (waiting-item _ _ _ _ _ c.loop-pid-test.true c.pid-item.is) c.loop-pid.invariant.1 in
    part_fails _ _ _ _ _ _ _ _ _ (p.1 ∙ ap Err p.2) o c.in_err-write_waiting.ensures

pub loop-pid-preserved : goal.loop-pid-preserved
loop-pid-preserved g c =
    let w = c.in_ok-write_waiting.ensures in
    let o = owes_same _ _ _ _ _ (waiting-item _ _ _ _ _ c.loop-pid-test.true c.pid-item.is) c.loop-pid.invariant.1 in
    (w.sound, owes_less _ _ _ _ _ _ o w.appends)

pub returns : goal.returns
returns g c =
    owes_nothing _ _ _ _ (owes_same _ _ _ _ _ (waiting-end _ _ _ c.loop-pid-test.false) c.loop-pid.invariant.1) c.loop-pid.invariant.0
