use Rattle.std.proofs.Common.{◌∙◌, codes}
use Rattle.std.proofs.lemmas.Result.{err_from_is_err_and}
use Rattle.term_core.specs.inside.Writing.{owes_all, owes_break_in, owes_less, owes_same, breaks_at, writes_last}
use Rattle.report_terms.proofs.CallTexts.{names-by}
use Rattle.report_terms.proofs.calls.write_names.Goals as goal

pub returns-in_err-write_in_marks : goal.returns-in_err-write_in_marks
returns-in_err-write_in_marks g c =
    let p = err_from_is_err_and c.from_residual.result c.from_residual.ensures.1 in
    breaks_at _ _ _ _ _ _ p.1 (owes_break_in _ _ _ _ _ _ _ (owes_same _ _ _ _ _ (names-by c.args.kind c.as_bytes-module_name.result.now c.as_bytes-function_name.result.now (c.as_bytes-module_name.ensures.value ∙ c.module_name.ensures) (c.as_bytes-function_name.ensures.value ∙ c.function_name.ensures)) (owes_all _ _)) c.in_err-write_in_marks.ensures)

pub returns-in_err-write_all : goal.returns-in_err-write_all
returns-in_err-write_all g c =
    let p = err_from_is_err_and c.from_residual-in_err-write_all.result c.from_residual-in_err-write_all.ensures.1 in
    let o1 = owes_less _ _ _ _ _ _ (owes_same _ _ _ _ _ (names-by c.args.kind c.as_bytes-module_name.result.now c.as_bytes-function_name.result.now (c.as_bytes-module_name.ensures.value ∙ c.module_name.ensures) (c.as_bytes-function_name.ensures.value ∙ c.function_name.ensures)) (owes_all _ _)) c.in_ok-write_in_marks.ensures.appends in
    breaks_at _ _ _ _ _ _ p.1 (owes_break_in _ _ _ _ (codes ",") _ _ o1 c.in_err-write_all.ensures)

pub returns : goal.returns
returns g c =
    let o1 = owes_less _ _ _ _ _ _ (owes_same _ _ _ _ _ (names-by c.args.kind c.as_bytes-module_name.result.now c.as_bytes-function_name.result.now (c.as_bytes-module_name.ensures.value ∙ c.module_name.ensures) (c.as_bytes-function_name.ensures.value ∙ c.function_name.ensures)) (owes_all _ _)) c.in_ok-write_in_marks.ensures.appends in
    let o2 = owes_less _ _ _ (codes ",") _ _ o1 c.in_ok-write_all.ensures.appends in
    writes_last _ _ _ _ _ _ _ o2 c.write_in_marks-2.ensures
