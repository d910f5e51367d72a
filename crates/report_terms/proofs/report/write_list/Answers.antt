use Rattle.std.proofs.Common.{ap, ◌∙◌}
use Rattle.std.specs.Prelude.{Err}
use Rattle.std.proofs.lemmas.Result.{err_from_is_err_and}
use Rattle.term_core.specs.inside.Writing.{owes_less, owes_same, owes_nothing}
use Rattle.world_model.specs.Asking.{program_of}
use Rattle.report_terms.proofs.ReportTexts.{from-item, from-end}
use Rattle.report_explained.proofs.Parts.{part_fails}
use Rattle.report_terms.proofs.report.write_list.Goals as goal

pub returns-in_err-write_finding : goal.returns-in_err-write_finding
returns-in_err-write_finding g c =
    let p = err_from_is_err_and c.from_residual.result c.from_residual.ensures.1 in
    let o = owes_same _ _ _ _ _ (from-item (program_of c.args.program.now) c.args.kind.now c.as_slice-finding-items.result.now c.loop-place.place _ _ c.loop-place-test.true c.finding-item.is) c.loop-place.invariant.1 in
    part_fails _ _ _ _ _ _ _ _ _ (p.1 ∙ ap Err p.2) o c.in_err-write_finding.ensures

pub loop-place-preserved : goal.loop-place-preserved
loop-place-preserved g c =
    let w = c.in_ok-write_finding.ensures in
    let o = owes_same _ _ _ _ _ (from-item (program_of c.args.program.now) c.args.kind.now c.as_slice-finding-items.result.now c.loop-place.place _ _ c.loop-place-test.true c.finding-item.is) c.loop-place.invariant.1 in
    (w.sound, owes_less _ _ _ _ _ _ o w.appends)

pub returns : goal.returns
returns g c =
    owes_nothing _ _ _ _ (owes_same _ _ _ _ _ (from-end (program_of c.args.program.now) c.args.kind.now c.as_slice-finding-items.result.now c.loop-place.place c.loop-place-test.false) c.loop-place.invariant.1) c.loop-place.invariant.0
