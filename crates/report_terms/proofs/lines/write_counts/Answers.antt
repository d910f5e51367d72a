use Rattle.std.proofs.Common.{ap, ◌∙◌, codes, length}
use Rattle.std.proofs.lemmas.Result.{err_from_is_err_and}
use Rattle.term_core.specs.inside.Writing.{owes_all, owes_break_in, owes_less, owes_same, breaks_at, writes_last}
use Rattle.tree_excuses.specs.Excuses.{excuses_in}
use Rattle.report_terms.proofs.ReportTexts.{counts-numbers}
use Rattle.report_terms.proofs.lines.write_counts.Goals as goal

pub returns-in_err-write_all : goal.returns-in_err-write_all
returns-in_err-write_all g c =
    let p = err_from_is_err_and c.from_residual.result c.from_residual.ensures.1 in
    breaks_at _ _ _ _ _ _ p.1 (owes_break_in _ _ _ _ (codes "{counts,") _ _ (owes_same _ _ _ _ _ (counts-numbers (excuses_in c.args.excuses.now) c.args.findings.now _ _ _ _ c.errors-errors.ensures c.count-counted.ensures (c.len-refusals.ensures ∙ ap length c.refusals.ensures) c.count-taken.ensures) (owes_all _ _)) c.in_err-write_all.ensures)

pub returns-in_err-write_number : goal.returns-in_err-write_number
returns-in_err-write_number g c =
    let p = err_from_is_err_and c.from_residual-in_err-write_number.result c.from_residual-in_err-write_number.ensures.1 in
    let o1 = owes_less _ _ _ (codes "{counts,") _ _ (owes_same _ _ _ _ _ (counts-numbers (excuses_in c.args.excuses.now) c.args.findings.now _ _ _ _ c.errors-errors.ensures c.count-counted.ensures (c.len-refusals.ensures ∙ ap length c.refusals.ensures) c.count-taken.ensures) (owes_all _ _)) c.in_ok-write_all.ensures.appends in
    breaks_at _ _ _ _ _ _ p.1 (owes_break_in _ _ _ _ _ _ _ o1 c.in_err-write_number.ensures)

pub returns-in_err-write_all-2 : goal.returns-in_err-write_all-2
returns-in_err-write_all-2 g c =
    let p = err_from_is_err_and c.from_residual-in_err-write_all-2.result c.from_residual-in_err-write_all-2.ensures.1 in
    let o1 = owes_less _ _ _ (codes "{counts,") _ _ (owes_same _ _ _ _ _ (counts-numbers (excuses_in c.args.excuses.now) c.args.findings.now _ _ _ _ c.errors-errors.ensures c.count-counted.ensures (c.len-refusals.ensures ∙ ap length c.refusals.ensures) c.count-taken.ensures) (owes_all _ _)) c.in_ok-write_all.ensures.appends in
    let o2 = owes_less _ _ _ _ _ _ o1 c.in_ok-write_number.ensures.appends in
    breaks_at _ _ _ _ _ _ p.1 (owes_break_in _ _ _ _ (codes ",") _ _ o2 c.in_err-write_all-2.ensures)

pub returns-in_err-write_number-2 : goal.returns-in_err-write_number-2
returns-in_err-write_number-2 g c =
    let p = err_from_is_err_and c.from_residual-in_err-write_number-2.result c.from_residual-in_err-write_number-2.ensures.1 in
    let o1 = owes_less _ _ _ (codes "{counts,") _ _ (owes_same _ _ _ _ _ (counts-numbers (excuses_in c.args.excuses.now) c.args.findings.now _ _ _ _ c.errors-errors.ensures c.count-counted.ensures (c.len-refusals.ensures ∙ ap length c.refusals.ensures) c.count-taken.ensures) (owes_all _ _)) c.in_ok-write_all.ensures.appends in
    let o2 = owes_less _ _ _ _ _ _ o1 c.in_ok-write_number.ensures.appends in
    let o3 = owes_less _ _ _ (codes ",") _ _ o2 c.in_ok-write_all-2.ensures.appends in
    breaks_at _ _ _ _ _ _ p.1 (owes_break_in _ _ _ _ _ _ _ o3 c.in_err-write_number-2.ensures)

pub returns-in_err-write_all-3 : goal.returns-in_err-write_all-3
returns-in_err-write_all-3 g c =
    let p = err_from_is_err_and c.from_residual-in_err-write_all-3.result c.from_residual-in_err-write_all-3.ensures.1 in
    let o1 = owes_less _ _ _ (codes "{counts,") _ _ (owes_same _ _ _ _ _ (counts-numbers (excuses_in c.args.excuses.now) c.args.findings.now _ _ _ _ c.errors-errors.ensures c.count-counted.ensures (c.len-refusals.ensures ∙ ap length c.refusals.ensures) c.count-taken.ensures) (owes_all _ _)) c.in_ok-write_all.ensures.appends in
    let o2 = owes_less _ _ _ _ _ _ o1 c.in_ok-write_number.ensures.appends in
    let o3 = owes_less _ _ _ (codes ",") _ _ o2 c.in_ok-write_all-2.ensures.appends in
    let o4 = owes_less _ _ _ _ _ _ o3 c.in_ok-write_number-2.ensures.appends in
    breaks_at _ _ _ _ _ _ p.1 (owes_break_in _ _ _ _ (codes ",") _ _ o4 c.in_err-write_all-3.ensures)

pub returns-in_err-write_number-3 : goal.returns-in_err-write_number-3
returns-in_err-write_number-3 g c =
    let p = err_from_is_err_and c.from_residual-in_err-write_number-3.result c.from_residual-in_err-write_number-3.ensures.1 in
    let o1 = owes_less _ _ _ (codes "{counts,") _ _ (owes_same _ _ _ _ _ (counts-numbers (excuses_in c.args.excuses.now) c.args.findings.now _ _ _ _ c.errors-errors.ensures c.count-counted.ensures (c.len-refusals.ensures ∙ ap length c.refusals.ensures) c.count-taken.ensures) (owes_all _ _)) c.in_ok-write_all.ensures.appends in
    let o2 = owes_less _ _ _ _ _ _ o1 c.in_ok-write_number.ensures.appends in
    let o3 = owes_less _ _ _ (codes ",") _ _ o2 c.in_ok-write_all-2.ensures.appends in
    let o4 = owes_less _ _ _ _ _ _ o3 c.in_ok-write_number-2.ensures.appends in
    let o5 = owes_less _ _ _ (codes ",") _ _ o4 c.in_ok-write_all-3.ensures.appends in
    breaks_at _ _ _ _ _ _ p.1 (owes_break_in _ _ _ _ _ _ _ o5 c.in_err-write_number-3.ensures)

pub returns : goal.returns
returns g c =
    let o1 = owes_less _ _ _ (codes "{counts,") _ _ (owes_same _ _ _ _ _ (counts-numbers (excuses_in c.args.excuses.now) c.args.findings.now _ _ _ _ c.errors-errors.ensures c.count-counted.ensures (c.len-refusals.ensures ∙ ap length c.refusals.ensures) c.count-taken.ensures) (owes_all _ _)) c.in_ok-write_all.ensures.appends in
    let o2 = owes_less _ _ _ _ _ _ o1 c.in_ok-write_number.ensures.appends in
    let o3 = owes_less _ _ _ (codes ",") _ _ o2 c.in_ok-write_all-2.ensures.appends in
    let o4 = owes_less _ _ _ _ _ _ o3 c.in_ok-write_number-2.ensures.appends in
    let o5 = owes_less _ _ _ (codes ",") _ _ o4 c.in_ok-write_all-3.ensures.appends in
    let o6 = owes_less _ _ _ _ _ _ o5 c.in_ok-write_number-3.ensures.appends in
    writes_last _ _ _ _ _ _ _ o6 c.write_all-4.ensures
