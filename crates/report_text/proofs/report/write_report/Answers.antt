use Rattle.std.proofs.lemmas.Result.{err_from_is_err_and}
use Rattle.term_core.specs.inside.Writing.{owes_all, owes_less, owes_break_in, writes_last, breaks_at, owes_same}
use Rattle.tree_excuses.specs.Excuses.{excuses_in}
use Rattle.report_text.proofs.ReportTexts.{text_of_report-findings}
use Rattle.report_text.proofs.report.write_report.Goals as goal

pub returns-in_err-write_first_line : goal.returns-in_err-write_first_line
returns-in_err-write_first_line g c =
    let p = err_from_is_err_and c.from_residual.result c.from_residual.ensures.1 in
    breaks_at _ _ _ _ _ _ p.1 (owes_break_in _ _ _ _ _ _ _ (owes_same _ _ _ _ _ (text_of_report-findings c.args.visited c.args.depth (excuses_in c.args.excuses.now) c.args.outcome.now _ c.findings_in-findings.ensures) (owes_all _ _)) c.in_err-write_first_line.ensures)

pub returns-in_err-write_all_findings : goal.returns-in_err-write_all_findings
returns-in_err-write_all_findings g c =
    let p = err_from_is_err_and c.from_residual-in_err-write_all_findings.result c.from_residual-in_err-write_all_findings.ensures.1 in
    let o1 = owes_less _ _ _ _ _ _ (owes_same _ _ _ _ _ (text_of_report-findings c.args.visited c.args.depth (excuses_in c.args.excuses.now) c.args.outcome.now _ c.findings_in-findings.ensures) (owes_all _ _)) c.in_ok-write_first_line.ensures.appends in
    breaks_at _ _ _ _ _ _ p.1 (owes_break_in _ _ _ _ _ _ _ o1 c.in_err-write_all_findings.ensures)

pub returns-in_err-write_counts : goal.returns-in_err-write_counts
returns-in_err-write_counts g c =
    let p = err_from_is_err_and c.from_residual-in_err-write_counts.result c.from_residual-in_err-write_counts.ensures.1 in
    let o1 = owes_less _ _ _ _ _ _ (owes_same _ _ _ _ _ (text_of_report-findings c.args.visited c.args.depth (excuses_in c.args.excuses.now) c.args.outcome.now _ c.findings_in-findings.ensures) (owes_all _ _)) c.in_ok-write_first_line.ensures.appends in
    let o2 = owes_less _ _ _ _ _ _ o1 c.in_ok-write_all_findings.ensures.appends in
    breaks_at _ _ _ _ _ _ p.1 (owes_break_in _ _ _ _ _ _ _ o2 c.in_err-write_counts.ensures)

pub returns : goal.returns
returns g c =
    let o1 = owes_less _ _ _ _ _ _ (owes_same _ _ _ _ _ (text_of_report-findings c.args.visited c.args.depth (excuses_in c.args.excuses.now) c.args.outcome.now _ c.findings_in-findings.ensures) (owes_all _ _)) c.in_ok-write_first_line.ensures.appends in
    let o2 = owes_less _ _ _ _ _ _ o1 c.in_ok-write_all_findings.ensures.appends in
    let o3 = owes_less _ _ _ _ _ _ o2 c.in_ok-write_counts.ensures.appends in
    writes_last _ _ _ _ _ _ _ o3 c.write_last_line.ensures
