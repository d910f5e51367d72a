use Rattle.std.proofs.lemmas.Result.{err_from_is_err_and}
use Rattle.term_core.specs.inside.Writing.{owes_all, owes_less, owes_break_in, writes_last, breaks_at, owes_same}
use Rattle.std.proofs.Common.{codes}
use Rattle.tree_excuses.specs.Excuses.{counted, excuses_in}
use Rattle.report_text.specs.ReportText.{text_of_findings}
use Rattle.report_text.proofs.ReportTexts.{text_of_all-lists}
use Rattle.report_text.proofs.report.write_all_findings.Goals as goal

pub returns-in_err-write_errors : goal.returns-in_err-write_errors
returns-in_err-write_errors g c =
    let p = err_from_is_err_and c.from_residual.result c.from_residual.ensures.1 in
    let x = excuses_in c.args.excuses.now in
    let o0 = owes_same _ _ _ _ _ (text_of_all-lists x c.args.findings.now _ _ c.errors-errors.ensures c.refusals-refusals.ensures) (owes_all _ _) in
    breaks_at _ _ _ _ _ _ p.1 (owes_break_in _ _ _ _ (text_of_findings (codes "error") (counted x c.errors-errors.result.now)) _ _ o0 c.in_err-write_errors.ensures)

pub returns-in_err-write_findings : goal.returns-in_err-write_findings
returns-in_err-write_findings g c =
    let p = err_from_is_err_and c.from_residual-in_err-write_findings.result c.from_residual-in_err-write_findings.ensures.1 in
    let x = excuses_in c.args.excuses.now in
    let o0 = owes_same _ _ _ _ _ (text_of_all-lists x c.args.findings.now _ _ c.errors-errors.ensures c.refusals-refusals.ensures) (owes_all _ _) in
    let o1 = owes_less _ _ _ (text_of_findings (codes "error") (counted x c.errors-errors.result.now)) _ _ o0 c.in_ok-write_errors.ensures.appends in
    breaks_at _ _ _ _ _ _ p.1 (owes_break_in _ _ _ _ (text_of_findings (codes "refusal") c.refusals-refusals.result.now) _ _ o1 c.in_err-write_findings.ensures)

pub returns : goal.returns
returns g c =
    let x = excuses_in c.args.excuses.now in
    let o0 = owes_same _ _ _ _ _ (text_of_all-lists x c.args.findings.now _ _ c.errors-errors.ensures c.refusals-refusals.ensures) (owes_all _ _) in
    let o1 = owes_less _ _ _ (text_of_findings (codes "error") (counted x c.errors-errors.result.now)) _ _ o0 c.in_ok-write_errors.ensures.appends in
    let o2 = owes_less _ _ _ (text_of_findings (codes "refusal") c.refusals-refusals.result.now) _ _ o1 c.in_ok-write_findings.ensures.appends in
    writes_last _ _ _ _ _ _ _ o2 c.write_errors-2.ensures
