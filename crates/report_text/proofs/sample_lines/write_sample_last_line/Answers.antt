use Rattle.std.proofs.Common.{codes}
use Rattle.std.proofs.lemmas.Result.{err_from_is_err_and}
use Rattle.term_core.specs.inside.Writing.{owes_all, owes_less, owes_break_in, writes_last, breaks_at, owes_same}
use Rattle.tree_excuses.specs.Excuses.{counted, excuses_in}
use Rattle.report_text.specs.SampleText.{sample_result}
use Rattle.report_text.proofs.ReportTexts.{sample_last_line-errors}
use Rattle.report_text.proofs.sample_lines.write_sample_last_line.Goals as goal

pub returns-in_err-write_all : goal.returns-in_err-write_all
returns-in_err-write_all g c =
    let p = err_from_is_err_and c.from_residual.result c.from_residual.ensures.1 in
    let o0 = owes_same _ _ _ _ _ (sample_last_line-errors (excuses_in c.args.excuses.now) c.args.findings.now _ c.errors-errors.ensures) (owes_all _ _) in
    breaks_at _ _ _ _ _ _ p.1 (owes_break_in _ _ _ _ (codes "result: ") _ _ o0 c.in_err-write_all.ensures)

pub returns-in_err-write_sample_result : goal.returns-in_err-write_sample_result
returns-in_err-write_sample_result g c =
    let p = err_from_is_err_and c.from_residual-in_err-write_sample_result.result c.from_residual-in_err-write_sample_result.ensures.1 in
    let o0 = owes_same _ _ _ _ _ (sample_last_line-errors (excuses_in c.args.excuses.now) c.args.findings.now _ c.errors-errors.ensures) (owes_all _ _) in
    let o1 = owes_less _ _ _ (codes "result: ") _ _ o0 c.in_ok-write_all.ensures.appends in
    breaks_at _ _ _ _ _ _ p.1 (owes_break_in _ _ _ _ (sample_result (counted (excuses_in c.args.excuses.now) c.errors-errors.result.now)) _ _ o1 c.in_err-write_sample_result.ensures)

pub returns : goal.returns
returns g c =
    let o0 = owes_same _ _ _ _ _ (sample_last_line-errors (excuses_in c.args.excuses.now) c.args.findings.now _ c.errors-errors.ensures) (owes_all _ _) in
    let o1 = owes_less _ _ _ (codes "result: ") _ _ o0 c.in_ok-write_all.ensures.appends in
    let o2 = owes_less _ _ _ (sample_result (counted (excuses_in c.args.excuses.now) c.errors-errors.result.now)) _ _ o1 c.in_ok-write_sample_result.ensures.appends in
    writes_last _ _ _ _ _ _ _ o2 c.write_all-2.ensures
