use Rattle.std.proofs.Common.{codes}
use Rattle.std.proofs.lemmas.Result.{err_from_is_err_and}
use Rattle.term_core.specs.inside.Writing.{owes_all, owes_break_in, owes_less, owes_same, breaks_at, writes_last}
use Rattle.tree_excuses.specs.Excuses.{excuses_in}
use Rattle.report_terms.proofs.ReportTexts.{sample-errors}
use Rattle.report_terms.proofs.lines.write_sample_result.Goals as goal

pub returns-in_err-write_all : goal.returns-in_err-write_all
returns-in_err-write_all g c =
    let p = err_from_is_err_and c.from_residual.result c.from_residual.ensures.1 in
    breaks_at _ _ _ _ _ _ p.1 (owes_break_in _ _ _ _ (codes "{result,") _ _ (owes_same _ _ _ _ _ (sample-errors (excuses_in c.args.excuses.now) c.args.findings.now c.errors-errors.result.now c.errors-errors.ensures) (owes_all _ _)) c.in_err-write_all.ensures)

pub returns-in_err-write_found : goal.returns-in_err-write_found
returns-in_err-write_found g c =
    let p = err_from_is_err_and c.from_residual-in_err-write_found.result c.from_residual-in_err-write_found.ensures.1 in
    let o1 = owes_less _ _ _ (codes "{result,") _ _ (owes_same _ _ _ _ _ (sample-errors (excuses_in c.args.excuses.now) c.args.findings.now c.errors-errors.result.now c.errors-errors.ensures) (owes_all _ _)) c.in_ok-write_all.ensures.appends in
    breaks_at _ _ _ _ _ _ p.1 (owes_break_in _ _ _ _ _ _ _ o1 c.in_err-write_found.ensures)

pub returns : goal.returns
returns g c =
    let o1 = owes_less _ _ _ (codes "{result,") _ _ (owes_same _ _ _ _ _ (sample-errors (excuses_in c.args.excuses.now) c.args.findings.now c.errors-errors.result.now c.errors-errors.ensures) (owes_all _ _)) c.in_ok-write_all.ensures.appends in
    let o2 = owes_less _ _ _ _ _ _ o1 c.in_ok-write_found.ensures.appends in
    writes_last _ _ _ _ _ _ _ o2 c.write_all-2.ensures
