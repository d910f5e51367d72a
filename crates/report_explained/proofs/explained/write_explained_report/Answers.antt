use Rattle.std.proofs.Common.{◌++◌, ap, ◌∙◌}
use Rattle.std.specs.Prelude.{Err}
use Rattle.std.proofs.lemmas.Result.{err_from_is_err_and}
use Rattle.term_core.specs.inside.Writing.{owes_all, owes_last, owes_less, owes_same}
use Rattle.world_model.specs.Asking.{program_of}
use Rattle.tree_excuses.specs.Excuses.{excuses_in}
use Rattle.report_text.specs.ReportText.{explained_first_line_by, explained_last_line, text_of_counts}
use Rattle.report_explained.specs.Explained.{explained_findings}
use Rattle.report_explained.proofs.ExplainedTexts.{report-findings}
use Rattle.report_explained.specs.declared.explain_fault.ExplainFault.TheVariants.{Write}
use Rattle.report_explained.proofs.Parts.{last_fails, part_fails}
use Rattle.report_explained.proofs.explained.write_explained_report.Goals as goal

pub returns-in_err-write_explained_first_line : goal.returns-in_err-write_explained_first_line
returns-in_err-write_explained_first_line g c =
    let p = err_from_is_err_and c.from_residual.result c.from_residual.ensures.1 in
    let o0 = owes_same _ _ _ _ _ (report-findings c.args.visited (program_of c.args.program.now) c.args.depth (excuses_in c.args.excuses.now) c.args.outcome.now _ c.findings_in-findings.ensures) (owes_all _ _) in
    part_fails _ _ (g.W.Sink.contents c.write_explained_first_line.new.sink) (g.W.Sink.has_failed c.write_explained_first_line.new.sink) c.from_residual.result Write (explained_first_line_by c.args.visited c.args.depth c.args.outcome.now) (explained_findings (program_of c.args.program.now) (excuses_in c.args.excuses.now) c.findings_in-findings.result.now ++ (text_of_counts (excuses_in c.args.excuses.now) c.findings_in-findings.result.now ++ (explained_last_line c.args.visited c.args.depth (excuses_in c.args.excuses.now) c.args.outcome.now))) _ (p.1 ∙ ap Err p.2) o0 c.in_err-write_explained_first_line.ensures

pub returns-in_err-write_explained_findings : goal.returns-in_err-write_explained_findings
returns-in_err-write_explained_findings g c =
    let p = err_from_is_err_and c.from_residual-in_err-write_explained_findings.result c.from_residual-in_err-write_explained_findings.ensures.1 in
    let o0 = owes_same _ _ _ _ _ (report-findings c.args.visited (program_of c.args.program.now) c.args.depth (excuses_in c.args.excuses.now) c.args.outcome.now _ c.findings_in-findings.ensures) (owes_all _ _) in
    let o1 = owes_less _ _ _ (explained_first_line_by c.args.visited c.args.depth c.args.outcome.now) (explained_findings (program_of c.args.program.now) (excuses_in c.args.excuses.now) c.findings_in-findings.result.now ++ (text_of_counts (excuses_in c.args.excuses.now) c.findings_in-findings.result.now ++ (explained_last_line c.args.visited c.args.depth (excuses_in c.args.excuses.now) c.args.outcome.now))) _ o0 c.in_ok-write_explained_first_line.ensures.appends in
    part_fails _ _ (g.W.Sink.contents c.write_explained_findings.new.sink) (g.W.Sink.has_failed c.write_explained_findings.new.sink) c.from_residual-in_err-write_explained_findings.result c.in_err-write_explained_findings.field-0.0 (explained_findings (program_of c.args.program.now) (excuses_in c.args.excuses.now) c.findings_in-findings.result.now) (text_of_counts (excuses_in c.args.excuses.now) c.findings_in-findings.result.now ++ (explained_last_line c.args.visited c.args.depth (excuses_in c.args.excuses.now) c.args.outcome.now)) _ (p.1 ∙ ap Err p.2) o1 c.in_err-write_explained_findings.ensures

pub returns-in_err-write_counts : goal.returns-in_err-write_counts
returns-in_err-write_counts g c =
    let p = err_from_is_err_and c.from_residual-in_err-write_counts.result c.from_residual-in_err-write_counts.ensures.1 in
    let o0 = owes_same _ _ _ _ _ (report-findings c.args.visited (program_of c.args.program.now) c.args.depth (excuses_in c.args.excuses.now) c.args.outcome.now _ c.findings_in-findings.ensures) (owes_all _ _) in
    let o1 = owes_less _ _ _ (explained_first_line_by c.args.visited c.args.depth c.args.outcome.now) (explained_findings (program_of c.args.program.now) (excuses_in c.args.excuses.now) c.findings_in-findings.result.now ++ (text_of_counts (excuses_in c.args.excuses.now) c.findings_in-findings.result.now ++ (explained_last_line c.args.visited c.args.depth (excuses_in c.args.excuses.now) c.args.outcome.now))) _ o0 c.in_ok-write_explained_first_line.ensures.appends in
    let o2 = owes_less _ _ _ (explained_findings (program_of c.args.program.now) (excuses_in c.args.excuses.now) c.findings_in-findings.result.now) (text_of_counts (excuses_in c.args.excuses.now) c.findings_in-findings.result.now ++ (explained_last_line c.args.visited c.args.depth (excuses_in c.args.excuses.now) c.args.outcome.now)) _ o1 c.in_ok-write_explained_findings.ensures.appends in
    part_fails _ _ (g.W.Sink.contents c.write_counts.new.sink) (g.W.Sink.has_failed c.write_counts.new.sink) c.from_residual-in_err-write_counts.result Write (text_of_counts (excuses_in c.args.excuses.now) c.findings_in-findings.result.now) (explained_last_line c.args.visited c.args.depth (excuses_in c.args.excuses.now) c.args.outcome.now) _ (p.1 ∙ ap Err p.2) o2 c.in_err-write_counts.ensures

pub returns-in_err-write_explained_last_line : goal.returns-in_err-write_explained_last_line
returns-in_err-write_explained_last_line g c =
    let p = err_from_is_err_and c.from_residual-in_err-write_explained_last_line.result c.from_residual-in_err-write_explained_last_line.ensures.1 in
    let o0 = owes_same _ _ _ _ _ (report-findings c.args.visited (program_of c.args.program.now) c.args.depth (excuses_in c.args.excuses.now) c.args.outcome.now _ c.findings_in-findings.ensures) (owes_all _ _) in
    let o1 = owes_less _ _ _ (explained_first_line_by c.args.visited c.args.depth c.args.outcome.now) (explained_findings (program_of c.args.program.now) (excuses_in c.args.excuses.now) c.findings_in-findings.result.now ++ (text_of_counts (excuses_in c.args.excuses.now) c.findings_in-findings.result.now ++ (explained_last_line c.args.visited c.args.depth (excuses_in c.args.excuses.now) c.args.outcome.now))) _ o0 c.in_ok-write_explained_first_line.ensures.appends in
    let o2 = owes_less _ _ _ (explained_findings (program_of c.args.program.now) (excuses_in c.args.excuses.now) c.findings_in-findings.result.now) (text_of_counts (excuses_in c.args.excuses.now) c.findings_in-findings.result.now ++ (explained_last_line c.args.visited c.args.depth (excuses_in c.args.excuses.now) c.args.outcome.now)) _ o1 c.in_ok-write_explained_findings.ensures.appends in
    let o3 = owes_less _ _ _ (text_of_counts (excuses_in c.args.excuses.now) c.findings_in-findings.result.now) (explained_last_line c.args.visited c.args.depth (excuses_in c.args.excuses.now) c.args.outcome.now) _ o2 c.in_ok-write_counts.ensures.appends in
    last_fails _ _ (g.W.Sink.contents c.write_explained_last_line.new.sink) (g.W.Sink.has_failed c.write_explained_last_line.new.sink) c.from_residual-in_err-write_explained_last_line.result Write (explained_last_line c.args.visited c.args.depth (excuses_in c.args.excuses.now) c.args.outcome.now) _ (p.1 ∙ ap Err p.2) o3 c.in_err-write_explained_last_line.ensures

pub returns : goal.returns
returns g c =
    let o0 = owes_same _ _ _ _ _ (report-findings c.args.visited (program_of c.args.program.now) c.args.depth (excuses_in c.args.excuses.now) c.args.outcome.now _ c.findings_in-findings.ensures) (owes_all _ _) in
    let o1 = owes_less _ _ _ (explained_first_line_by c.args.visited c.args.depth c.args.outcome.now) (explained_findings (program_of c.args.program.now) (excuses_in c.args.excuses.now) c.findings_in-findings.result.now ++ (text_of_counts (excuses_in c.args.excuses.now) c.findings_in-findings.result.now ++ (explained_last_line c.args.visited c.args.depth (excuses_in c.args.excuses.now) c.args.outcome.now))) _ o0 c.in_ok-write_explained_first_line.ensures.appends in
    let o2 = owes_less _ _ _ (explained_findings (program_of c.args.program.now) (excuses_in c.args.excuses.now) c.findings_in-findings.result.now) (text_of_counts (excuses_in c.args.excuses.now) c.findings_in-findings.result.now ++ (explained_last_line c.args.visited c.args.depth (excuses_in c.args.excuses.now) c.args.outcome.now)) _ o1 c.in_ok-write_explained_findings.ensures.appends in
    let o3 = owes_less _ _ _ (text_of_counts (excuses_in c.args.excuses.now) c.findings_in-findings.result.now) (explained_last_line c.args.visited c.args.depth (excuses_in c.args.excuses.now) c.args.outcome.now) _ o2 c.in_ok-write_counts.ensures.appends in
    owes_last _ _ _ _ (explained_last_line c.args.visited c.args.depth (excuses_in c.args.excuses.now) c.args.outcome.now) _ o3 c.in_ok-write_explained_last_line.ensures
