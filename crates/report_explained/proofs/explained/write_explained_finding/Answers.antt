use Rattle.std.proofs.Common.{ap, ◌∙◌}
use Rattle.std.specs.Prelude.{Err}
use Rattle.std.proofs.lemmas.Result.{err_from_is_err_and}
use Rattle.term_core.specs.inside.Writing.{owes_all, owes_last, owes_less}
use Rattle.tree_findings.specs.Found.{finding_in}
use Rattle.world_model.specs.Asking.{program_of}
use Rattle.report_text.specs.ReportText.{text_of_finding}
use Rattle.report_explained.specs.Explained.{text_of_explanation}
use Rattle.report_explained.specs.declared.explain_fault.ExplainFault.TheVariants.{Write}
use Rattle.report_explained.proofs.Parts.{last_fails, part_fails}
use Rattle.report_explained.proofs.explained.write_explained_finding.Goals as goal

pub returns-in_err-write_finding : goal.returns-in_err-write_finding
returns-in_err-write_finding g c =
    let p = err_from_is_err_and c.from_residual.result c.from_residual.ensures.1 in
    let o0 = owes_all _ _ in
    part_fails _ _ (g.W.Sink.contents c.write_finding.new.sink) (g.W.Sink.has_failed c.write_finding.new.sink) c.from_residual.result Write (text_of_finding c.args.kind.now c.args.number (finding_in c.args.finding.now)) (text_of_explanation (program_of c.args.program.now) (finding_in c.args.finding.now)) _ (p.1 ∙ ap Err p.2) o0 c.in_err-write_finding.ensures

pub returns-in_err-write_explanation : goal.returns-in_err-write_explanation
returns-in_err-write_explanation g c =
    let p = err_from_is_err_and c.from_residual-in_err-write_explanation.result c.from_residual-in_err-write_explanation.ensures.1 in
    let o0 = owes_all _ _ in
    let o1 = owes_less _ _ _ (text_of_finding c.args.kind.now c.args.number (finding_in c.args.finding.now)) (text_of_explanation (program_of c.args.program.now) (finding_in c.args.finding.now)) _ o0 c.in_ok-write_finding.ensures.appends in
    last_fails _ _ (g.W.Sink.contents c.write_explanation.new.sink) (g.W.Sink.has_failed c.write_explanation.new.sink) c.from_residual-in_err-write_explanation.result c.in_err-write_explanation.field-0.0 (text_of_explanation (program_of c.args.program.now) (finding_in c.args.finding.now)) _ (p.1 ∙ ap Err p.2) o1 c.in_err-write_explanation.ensures

pub returns : goal.returns
returns g c =
    let o0 = owes_all _ _ in
    let o1 = owes_less _ _ _ (text_of_finding c.args.kind.now c.args.number (finding_in c.args.finding.now)) (text_of_explanation (program_of c.args.program.now) (finding_in c.args.finding.now)) _ o0 c.in_ok-write_finding.ensures.appends in
    owes_last _ _ _ _ (text_of_explanation (program_of c.args.program.now) (finding_in c.args.finding.now)) _ o1 c.in_ok-write_explanation.ensures
