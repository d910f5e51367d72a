use Rattle.std.proofs.Common.{codes}
use Rattle.std.proofs.lemmas.Result.{err_from_is_err_and}
use Rattle.term_core.specs.inside.Writing.{owes_all, owes_break_in, owes_less, breaks_at, writes_last}
use Rattle.report_terms.specs.TermsReport.{reach_as_term}
use Rattle.report_terms.proofs.lines.write_result_of_all.Goals as goal

pub returns-in_err-write_all : goal.returns-in_err-write_all
returns-in_err-write_all g c =
    let p = err_from_is_err_and c.from_residual.result c.from_residual.ensures.1 in
    breaks_at _ _ _ _ _ _ p.1 (owes_break_in _ _ _ _ (codes "{result,") _ _ (owes_all _ _) c.in_err-write_all.ensures)

pub returns-in_err-write_complete_result : goal.returns-in_err-write_complete_result
returns-in_err-write_complete_result g c =
    let p = err_from_is_err_and c.from_residual-in_err-write_complete_result.result c.from_residual-in_err-write_complete_result.ensures.1 in
    let o1 = owes_less _ _ _ (codes "{result,") _ _ (owes_all _ _) c.in_ok-write_all.ensures.appends in
    breaks_at _ _ _ _ _ _ p.1 (owes_break_in _ _ _ _ _ _ _ o1 c.in_err-write_complete_result.ensures)

pub returns-in_err-write_all-2 : goal.returns-in_err-write_all-2
returns-in_err-write_all-2 g c =
    let p = err_from_is_err_and c.from_residual-in_err-write_all-2.result c.from_residual-in_err-write_all-2.ensures.1 in
    let o1 = owes_less _ _ _ (codes "{result,") _ _ (owes_all _ _) c.in_ok-write_all.ensures.appends in
    let o2 = owes_less _ _ _ _ _ _ o1 c.in_ok-write_complete_result.ensures.appends in
    breaks_at _ _ _ _ _ _ p.1 (owes_break_in _ _ _ _ (codes ",") _ _ o2 c.in_err-write_all-2.ensures)

pub returns-in_err-write_reach : goal.returns-in_err-write_reach
returns-in_err-write_reach g c =
    let p = err_from_is_err_and c.from_residual-in_err-write_reach.result c.from_residual-in_err-write_reach.ensures.1 in
    let o1 = owes_less _ _ _ (codes "{result,") _ _ (owes_all _ _) c.in_ok-write_all.ensures.appends in
    let o2 = owes_less _ _ _ _ _ _ o1 c.in_ok-write_complete_result.ensures.appends in
    let o3 = owes_less _ _ _ (codes ",") _ _ o2 c.in_ok-write_all-2.ensures.appends in
    breaks_at _ _ _ _ _ _ p.1 (owes_break_in _ _ _ _ (reach_as_term c.args.depth c.args.extent) _ _ o3 c.in_err-write_reach.ensures)

pub returns : goal.returns
returns g c =
    let o1 = owes_less _ _ _ (codes "{result,") _ _ (owes_all _ _) c.in_ok-write_all.ensures.appends in
    let o2 = owes_less _ _ _ _ _ _ o1 c.in_ok-write_complete_result.ensures.appends in
    let o3 = owes_less _ _ _ (codes ",") _ _ o2 c.in_ok-write_all-2.ensures.appends in
    let o4 = owes_less _ _ _ (reach_as_term c.args.depth c.args.extent) _ _ o3 c.in_ok-write_reach.ensures.appends in
    writes_last _ _ _ _ _ _ _ o4 c.write_all-3.ensures
