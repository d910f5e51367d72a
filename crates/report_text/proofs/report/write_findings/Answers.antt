use Rattle.std.proofs.lemmas.Result.{err_from_is_err_and}
use Rattle.term_core.specs.inside.Writing.{owes_less, owes_break_in, owes_same, owes_nothing, breaks_at}
use Rattle.report_text.proofs.ReportTexts.{findings_from-item, findings_from-end}
use Rattle.report_text.proofs.report.write_findings.Goals as goal

pub returns-in_err-write_finding : goal.returns-in_err-write_finding
returns-in_err-write_finding g c =
    let p = err_from_is_err_and c.from_residual.result c.from_residual.ensures.1 in
    let o = owes_same _ _ _ _ _ (findings_from-item _ _ _ _ _ c.loop-place-test.true c.finding-item.is) c.loop-place.invariant.1 in
    breaks_at _ _ _ _ _ _ p.1 (owes_break_in _ _ _ _ _ _ _ o c.in_err-write_finding.ensures)

pub loop-place-preserved : goal.loop-place-preserved
loop-place-preserved g c =
    let w = c.in_ok-write_finding.ensures in
    let o = owes_same _ _ _ _ _ (findings_from-item _ _ _ _ _ c.loop-place-test.true c.finding-item.is) c.loop-place.invariant.1 in
    (w.sound, owes_less _ _ _ _ _ _ o w.appends)

pub returns : goal.returns
returns g c =
    owes_nothing _ _ _ _ (owes_same _ _ _ _ _ (findings_from-end _ _ _ c.loop-place-test.false) c.loop-place.invariant.1) c.loop-place.invariant.0
