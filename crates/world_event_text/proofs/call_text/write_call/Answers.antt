use Rattle.std.proofs.Common.{codes}
use Rattle.std.proofs.lemmas.Result.{err_from_is_err_and}
use Rattle.term_core.specs.inside.Writing.{owes_all, owes_less, owes_break_in, writes_last, breaks_at, owes_same}
use Rattle.std.proofs.Common.{◌∙◌}
use Rattle.world_event_text.proofs.CallTexts.{text_of_call-names}
use Rattle.world_event_text.proofs.call_text.write_call.Goals as goal

pub returns-in_err-write_all : goal.returns-in_err-write_all
returns-in_err-write_all g c =
    let p = err_from_is_err_and c.from_residual.result c.from_residual.ensures.1 in
    breaks_at _ _ _ _ _ _ p.1 (owes_break_in _ _ _ _ _ _ _ (owes_same _ _ _ _ _ (text_of_call-names c.args.kind c.args.arguments.now c.as_bytes-module_name.result.now c.as_bytes-function_name.result.now (c.as_bytes-module_name.ensures.value ∙ c.module_name.ensures) (c.as_bytes-function_name.ensures.value ∙ c.function_name.ensures)) (owes_all _ _)) c.in_err-write_all.ensures)

pub returns-in_err-write_all-2 : goal.returns-in_err-write_all-2
returns-in_err-write_all-2 g c =
    let p = err_from_is_err_and c.from_residual-in_err-write_all-2.result c.from_residual-in_err-write_all-2.ensures.1 in
    let o1 = owes_less _ _ _ _ _ _ (owes_same _ _ _ _ _ (text_of_call-names c.args.kind c.args.arguments.now c.as_bytes-module_name.result.now c.as_bytes-function_name.result.now (c.as_bytes-module_name.ensures.value ∙ c.module_name.ensures) (c.as_bytes-function_name.ensures.value ∙ c.function_name.ensures)) (owes_all _ _)) c.in_ok-write_all.ensures.appends in
    breaks_at _ _ _ _ _ _ p.1 (owes_break_in _ _ _ _ (codes ":") _ _ o1 c.in_err-write_all-2.ensures)

pub returns-in_err-write_all-3 : goal.returns-in_err-write_all-3
returns-in_err-write_all-3 g c =
    let p = err_from_is_err_and c.from_residual-in_err-write_all-3.result c.from_residual-in_err-write_all-3.ensures.1 in
    let o1 = owes_less _ _ _ _ _ _ (owes_same _ _ _ _ _ (text_of_call-names c.args.kind c.args.arguments.now c.as_bytes-module_name.result.now c.as_bytes-function_name.result.now (c.as_bytes-module_name.ensures.value ∙ c.module_name.ensures) (c.as_bytes-function_name.ensures.value ∙ c.function_name.ensures)) (owes_all _ _)) c.in_ok-write_all.ensures.appends in
    let o2 = owes_less _ _ _ (codes ":") _ _ o1 c.in_ok-write_all-2.ensures.appends in
    breaks_at _ _ _ _ _ _ p.1 (owes_break_in _ _ _ _ _ _ _ o2 c.in_err-write_all-3.ensures)

pub returns-in_err-write_all-4 : goal.returns-in_err-write_all-4
returns-in_err-write_all-4 g c =
    let p = err_from_is_err_and c.from_residual-in_err-write_all-4.result c.from_residual-in_err-write_all-4.ensures.1 in
    let o1 = owes_less _ _ _ _ _ _ (owes_same _ _ _ _ _ (text_of_call-names c.args.kind c.args.arguments.now c.as_bytes-module_name.result.now c.as_bytes-function_name.result.now (c.as_bytes-module_name.ensures.value ∙ c.module_name.ensures) (c.as_bytes-function_name.ensures.value ∙ c.function_name.ensures)) (owes_all _ _)) c.in_ok-write_all.ensures.appends in
    let o2 = owes_less _ _ _ (codes ":") _ _ o1 c.in_ok-write_all-2.ensures.appends in
    let o3 = owes_less _ _ _ _ _ _ o2 c.in_ok-write_all-3.ensures.appends in
    breaks_at _ _ _ _ _ _ p.1 (owes_break_in _ _ _ _ (codes "(") _ _ o3 c.in_err-write_all-4.ensures)

pub returns-in_err-write_arguments : goal.returns-in_err-write_arguments
returns-in_err-write_arguments g c =
    let p = err_from_is_err_and c.from_residual-in_err-write_arguments.result c.from_residual-in_err-write_arguments.ensures.1 in
    let o1 = owes_less _ _ _ _ _ _ (owes_same _ _ _ _ _ (text_of_call-names c.args.kind c.args.arguments.now c.as_bytes-module_name.result.now c.as_bytes-function_name.result.now (c.as_bytes-module_name.ensures.value ∙ c.module_name.ensures) (c.as_bytes-function_name.ensures.value ∙ c.function_name.ensures)) (owes_all _ _)) c.in_ok-write_all.ensures.appends in
    let o2 = owes_less _ _ _ (codes ":") _ _ o1 c.in_ok-write_all-2.ensures.appends in
    let o3 = owes_less _ _ _ _ _ _ o2 c.in_ok-write_all-3.ensures.appends in
    let o4 = owes_less _ _ _ (codes "(") _ _ o3 c.in_ok-write_all-4.ensures.appends in
    breaks_at _ _ _ _ _ _ p.1 (owes_break_in _ _ _ _ _ _ _ o4 c.in_err-write_arguments.ensures)

pub returns : goal.returns
returns g c =
    let o1 = owes_less _ _ _ _ _ _ (owes_same _ _ _ _ _ (text_of_call-names c.args.kind c.args.arguments.now c.as_bytes-module_name.result.now c.as_bytes-function_name.result.now (c.as_bytes-module_name.ensures.value ∙ c.module_name.ensures) (c.as_bytes-function_name.ensures.value ∙ c.function_name.ensures)) (owes_all _ _)) c.in_ok-write_all.ensures.appends in
    let o2 = owes_less _ _ _ (codes ":") _ _ o1 c.in_ok-write_all-2.ensures.appends in
    let o3 = owes_less _ _ _ _ _ _ o2 c.in_ok-write_all-3.ensures.appends in
    let o4 = owes_less _ _ _ (codes "(") _ _ o3 c.in_ok-write_all-4.ensures.appends in
    let o5 = owes_less _ _ _ _ _ _ o4 c.in_ok-write_arguments.ensures.appends in
    writes_last _ _ _ _ _ _ _ o5 c.write_all-5.ensures
