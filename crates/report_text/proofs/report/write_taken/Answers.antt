use Rattle.std.proofs.Common.{codes}
use Rattle.std.proofs.lemmas.Result.{err_from_is_err_and}
use Rattle.term_core.specs.inside.Writing.{owes_all, owes_less, owes_break_in, writes_last, breaks_at, owes_same}
use Rattle.tree_excuses.specs.Excuses.{excuses_in, taken}
use Rattle.report_text.proofs.ReportTexts.{text_of_taken-number}
use Rattle.report_text.proofs.report.write_taken.Goals as goal

pub returns-in_err-write_all : goal.returns-in_err-write_all
returns-in_err-write_all g c =
    let p = err_from_is_err_and c.from_residual.result c.from_residual.ensures.1 in
    let o0 = owes_same _ _ _ _ _ (text_of_taken-number (taken (excuses_in c.args.excuses.now) c.args.errors.now) _ c.count-taken.ensures) (owes_all _ _) in
    breaks_at _ _ _ _ _ _ p.1 (owes_break_in _ _ _ _ (codes ", taken as normal ") _ _ o0 c.in_err-write_all.ensures)

pub returns : goal.returns
returns g c =
    let o0 = owes_same _ _ _ _ _ (text_of_taken-number (taken (excuses_in c.args.excuses.now) c.args.errors.now) _ c.count-taken.ensures) (owes_all _ _) in
    let o1 = owes_less _ _ _ (codes ", taken as normal ") _ _ o0 c.in_ok-write_all.ensures.appends in
    writes_last _ _ _ _ _ _ _ o1 c.write_number.ensures
