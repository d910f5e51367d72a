use Rattle.std.proofs.Common.{◌++◌, ap, ◌∙◌}
use Rattle.std.specs.Prelude.{Err}
use Rattle.std.proofs.lemmas.Result.{err_from_is_err_and}
use Rattle.term_core.specs.inside.Writing.{owes_all, owes_last, owes_less, owes_same}
use Rattle.tree_excuses.specs.Excuses.{excuses_in}
use Rattle.world_model.specs.Asking.{program_of}
use Rattle.report_explained.specs.declared.explain_fault.ExplainFault.TheVariants.{Write}
use Rattle.report_explained.proofs.Parts.{last_fails, part_fails}
use Rattle.report_terms.specs.TermsReport.{counts_line, explored_line, lines_of_findings, result_line}
use Rattle.report_terms.proofs.ReportTexts.{report-findings}
use Rattle.report_terms.proofs.report.write_terms_report.Goals as goal

pub returns-in_err-write_explored : goal.returns-in_err-write_explored
returns-in_err-write_explored g c =
    let p = err_from_is_err_and c.from_residual.result c.from_residual.ensures.1 in
    let o0 = owes_same _ _ _ _ _ (report-findings c.args.visited (program_of c.args.program.now) c.args.depth (excuses_in c.args.excuses.now) c.args.outcome.now c.findings_in-findings.result.now c.findings_in-findings.ensures) (owes_all _ _) in
    part_fails _ _ (g.W.Sink.contents c.write_explored.new.sink) (g.W.Sink.has_failed c.write_explored.new.sink) c.from_residual.result Write (explored_line c.args.visited c.args.depth c.args.outcome.now) (lines_of_findings (program_of c.args.program.now) (excuses_in c.args.excuses.now) c.findings_in-findings.result.now ++ (counts_line (excuses_in c.args.excuses.now) c.findings_in-findings.result.now ++ result_line c.args.depth (excuses_in c.args.excuses.now) c.args.outcome.now)) _ (p.1 ∙ ap Err p.2) o0 c.in_err-write_explored.ensures

pub returns-in_err-write_findings : goal.returns-in_err-write_findings
returns-in_err-write_findings g c =
    let p = err_from_is_err_and c.from_residual-in_err-write_findings.result c.from_residual-in_err-write_findings.ensures.1 in
    let o0 = owes_same _ _ _ _ _ (report-findings c.args.visited (program_of c.args.program.now) c.args.depth (excuses_in c.args.excuses.now) c.args.outcome.now c.findings_in-findings.result.now c.findings_in-findings.ensures) (owes_all _ _) in
    let o1 = owes_less _ _ _ (explored_line c.args.visited c.args.depth c.args.outcome.now) (lines_of_findings (program_of c.args.program.now) (excuses_in c.args.excuses.now) c.findings_in-findings.result.now ++ (counts_line (excuses_in c.args.excuses.now) c.findings_in-findings.result.now ++ result_line c.args.depth (excuses_in c.args.excuses.now) c.args.outcome.now)) _ o0 c.in_ok-write_explored.ensures.appends in
    part_fails _ _ (g.W.Sink.contents c.write_findings.new.sink) (g.W.Sink.has_failed c.write_findings.new.sink) c.from_residual-in_err-write_findings.result c.in_err-write_findings.field-0.0 (lines_of_findings (program_of c.args.program.now) (excuses_in c.args.excuses.now) c.findings_in-findings.result.now) (counts_line (excuses_in c.args.excuses.now) c.findings_in-findings.result.now ++ result_line c.args.depth (excuses_in c.args.excuses.now) c.args.outcome.now) _ (p.1 ∙ ap Err p.2) o1 c.in_err-write_findings.ensures

pub returns-in_err-write_counts : goal.returns-in_err-write_counts
returns-in_err-write_counts g c =
    let p = err_from_is_err_and c.from_residual-in_err-write_counts.result c.from_residual-in_err-write_counts.ensures.1 in
    let o0 = owes_same _ _ _ _ _ (report-findings c.args.visited (program_of c.args.program.now) c.args.depth (excuses_in c.args.excuses.now) c.args.outcome.now c.findings_in-findings.result.now c.findings_in-findings.ensures) (owes_all _ _) in
    let o1 = owes_less _ _ _ (explored_line c.args.visited c.args.depth c.args.outcome.now) (lines_of_findings (program_of c.args.program.now) (excuses_in c.args.excuses.now) c.findings_in-findings.result.now ++ (counts_line (excuses_in c.args.excuses.now) c.findings_in-findings.result.now ++ result_line c.args.depth (excuses_in c.args.excuses.now) c.args.outcome.now)) _ o0 c.in_ok-write_explored.ensures.appends in
    let o2 = owes_less _ _ _ (lines_of_findings (program_of c.args.program.now) (excuses_in c.args.excuses.now) c.findings_in-findings.result.now) (counts_line (excuses_in c.args.excuses.now) c.findings_in-findings.result.now ++ result_line c.args.depth (excuses_in c.args.excuses.now) c.args.outcome.now) _ o1 c.in_ok-write_findings.ensures.appends in
    part_fails _ _ (g.W.Sink.contents c.write_counts.new.sink) (g.W.Sink.has_failed c.write_counts.new.sink) c.from_residual-in_err-write_counts.result Write (counts_line (excuses_in c.args.excuses.now) c.findings_in-findings.result.now) (result_line c.args.depth (excuses_in c.args.excuses.now) c.args.outcome.now) _ (p.1 ∙ ap Err p.2) o2 c.in_err-write_counts.ensures

pub returns-in_err-write_result : goal.returns-in_err-write_result
returns-in_err-write_result g c =
    let p = err_from_is_err_and c.from_residual-in_err-write_result.result c.from_residual-in_err-write_result.ensures.1 in
    let o0 = owes_same _ _ _ _ _ (report-findings c.args.visited (program_of c.args.program.now) c.args.depth (excuses_in c.args.excuses.now) c.args.outcome.now c.findings_in-findings.result.now c.findings_in-findings.ensures) (owes_all _ _) in
    let o1 = owes_less _ _ _ (explored_line c.args.visited c.args.depth c.args.outcome.now) (lines_of_findings (program_of c.args.program.now) (excuses_in c.args.excuses.now) c.findings_in-findings.result.now ++ (counts_line (excuses_in c.args.excuses.now) c.findings_in-findings.result.now ++ result_line c.args.depth (excuses_in c.args.excuses.now) c.args.outcome.now)) _ o0 c.in_ok-write_explored.ensures.appends in
    let o2 = owes_less _ _ _ (lines_of_findings (program_of c.args.program.now) (excuses_in c.args.excuses.now) c.findings_in-findings.result.now) (counts_line (excuses_in c.args.excuses.now) c.findings_in-findings.result.now ++ result_line c.args.depth (excuses_in c.args.excuses.now) c.args.outcome.now) _ o1 c.in_ok-write_findings.ensures.appends in
    let o3 = owes_less _ _ _ (counts_line (excuses_in c.args.excuses.now) c.findings_in-findings.result.now) (result_line c.args.depth (excuses_in c.args.excuses.now) c.args.outcome.now) _ o2 c.in_ok-write_counts.ensures.appends in
    last_fails _ _ (g.W.Sink.contents c.write_result.new.sink) (g.W.Sink.has_failed c.write_result.new.sink) c.from_residual-in_err-write_result.result Write (result_line c.args.depth (excuses_in c.args.excuses.now) c.args.outcome.now) _ (p.1 ∙ ap Err p.2) o3 c.in_err-write_result.ensures

pub returns : goal.returns
returns g c =
    let o0 = owes_same _ _ _ _ _ (report-findings c.args.visited (program_of c.args.program.now) c.args.depth (excuses_in c.args.excuses.now) c.args.outcome.now c.findings_in-findings.result.now c.findings_in-findings.ensures) (owes_all _ _) in
    let o1 = owes_less _ _ _ (explored_line c.args.visited c.args.depth c.args.outcome.now) (lines_of_findings (program_of c.args.program.now) (excuses_in c.args.excuses.now) c.findings_in-findings.result.now ++ (counts_line (excuses_in c.args.excuses.now) c.findings_in-findings.result.now ++ result_line c.args.depth (excuses_in c.args.excuses.now) c.args.outcome.now)) _ o0 c.in_ok-write_explored.ensures.appends in
    let o2 = owes_less _ _ _ (lines_of_findings (program_of c.args.program.now) (excuses_in c.args.excuses.now) c.findings_in-findings.result.now) (counts_line (excuses_in c.args.excuses.now) c.findings_in-findings.result.now ++ result_line c.args.depth (excuses_in c.args.excuses.now) c.args.outcome.now) _ o1 c.in_ok-write_findings.ensures.appends in
    let o3 = owes_less _ _ _ (counts_line (excuses_in c.args.excuses.now) c.findings_in-findings.result.now) (result_line c.args.depth (excuses_in c.args.excuses.now) c.args.outcome.now) _ o2 c.in_ok-write_counts.ensures.appends in
    owes_last _ _ _ _ (result_line c.args.depth (excuses_in c.args.excuses.now) c.args.outcome.now) _ o3 c.in_ok-write_result.ensures
