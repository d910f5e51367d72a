use Rattle.std.proofs.Common.{◌++◌, ap, ◌∙◌, codes}
use Rattle.std.specs.Prelude.{Err}
use Rattle.std.proofs.lemmas.Result.{err_from_is_err_and}
use Rattle.term_core.specs.inside.Writing.{owes_all, owes_last, owes_less, owes_same}
use Rattle.tree_excuses.specs.Excuses.{counted, excuses_in, taken}
use Rattle.world_model.specs.Asking.{program_of}
use Rattle.report_explained.proofs.Parts.{last_fails, part_fails}
use Rattle.report_terms.specs.TermsReport.{lines_from}
use Rattle.report_terms.proofs.ReportTexts.{findings-lists}
use Rattle.report_terms.proofs.report.write_findings.Goals as goal

pub returns-in_err-write_errors : goal.returns-in_err-write_errors
returns-in_err-write_errors g c =
    let p = err_from_is_err_and c.from_residual.result c.from_residual.ensures.1 in
    let a = program_of c.args.program.now in
    let x = excuses_in c.args.excuses.now in
    let es = c.errors-errors.result.now in
    let rs = c.refusals-refusals.result.now in
    let o0 = owes_same _ _ _ _ _ (findings-lists a x c.args.findings.now es rs c.errors-errors.ensures c.refusals-refusals.ensures) (owes_all _ _) in
    part_fails _ _ (g.W.Sink.contents c.write_errors.new.sink) (g.W.Sink.has_failed c.write_errors.new.sink) c.from_residual.result c.in_err-write_errors.field-0.0 (lines_from a (codes "error") 1 (counted x es)) (lines_from a (codes "refusal") 1 rs ++ lines_from a (codes "normal") 1 (taken x es)) _ (p.1 ∙ ap Err p.2) o0 c.in_err-write_errors.ensures

pub returns-in_err-write_list : goal.returns-in_err-write_list
returns-in_err-write_list g c =
    let p = err_from_is_err_and c.from_residual-in_err-write_list.result c.from_residual-in_err-write_list.ensures.1 in
    let a = program_of c.args.program.now in
    let x = excuses_in c.args.excuses.now in
    let es = c.errors-errors.result.now in
    let rs = c.refusals-refusals.result.now in
    let o0 = owes_same _ _ _ _ _ (findings-lists a x c.args.findings.now es rs c.errors-errors.ensures c.refusals-refusals.ensures) (owes_all _ _) in
    let o1 = owes_less _ _ _ (lines_from a (codes "error") 1 (counted x es)) (lines_from a (codes "refusal") 1 rs ++ lines_from a (codes "normal") 1 (taken x es)) _ o0 c.in_ok-write_errors.ensures.appends in
    part_fails _ _ (g.W.Sink.contents c.write_list.new.sink) (g.W.Sink.has_failed c.write_list.new.sink) c.from_residual-in_err-write_list.result c.in_err-write_list.field-0.0 (lines_from a (codes "refusal") 1 rs) (lines_from a (codes "normal") 1 (taken x es)) _ (p.1 ∙ ap Err p.2) o1 c.in_err-write_list.ensures

pub returns-in_err-write_errors-2 : goal.returns-in_err-write_errors-2
returns-in_err-write_errors-2 g c =
    let p = err_from_is_err_and c.from_residual-in_err-write_errors-2.result c.from_residual-in_err-write_errors-2.ensures.1 in
    let a = program_of c.args.program.now in
    let x = excuses_in c.args.excuses.now in
    let es = c.errors-errors.result.now in
    let rs = c.refusals-refusals.result.now in
    let o0 = owes_same _ _ _ _ _ (findings-lists a x c.args.findings.now es rs c.errors-errors.ensures c.refusals-refusals.ensures) (owes_all _ _) in
    let o1 = owes_less _ _ _ (lines_from a (codes "error") 1 (counted x es)) (lines_from a (codes "refusal") 1 rs ++ lines_from a (codes "normal") 1 (taken x es)) _ o0 c.in_ok-write_errors.ensures.appends in
    let o2 = owes_less _ _ _ (lines_from a (codes "refusal") 1 rs) (lines_from a (codes "normal") 1 (taken x es)) _ o1 c.in_ok-write_list.ensures.appends in
    last_fails _ _ (g.W.Sink.contents c.write_errors-2.new.sink) (g.W.Sink.has_failed c.write_errors-2.new.sink) c.from_residual-in_err-write_errors-2.result c.in_err-write_errors-2.field-0.0 (lines_from a (codes "normal") 1 (taken x es)) _ (p.1 ∙ ap Err p.2) o2 c.in_err-write_errors-2.ensures

pub returns : goal.returns
returns g c =
    let a = program_of c.args.program.now in
    let x = excuses_in c.args.excuses.now in
    let es = c.errors-errors.result.now in
    let rs = c.refusals-refusals.result.now in
    let o0 = owes_same _ _ _ _ _ (findings-lists a x c.args.findings.now es rs c.errors-errors.ensures c.refusals-refusals.ensures) (owes_all _ _) in
    let o1 = owes_less _ _ _ (lines_from a (codes "error") 1 (counted x es)) (lines_from a (codes "refusal") 1 rs ++ lines_from a (codes "normal") 1 (taken x es)) _ o0 c.in_ok-write_errors.ensures.appends in
    let o2 = owes_less _ _ _ (lines_from a (codes "refusal") 1 rs) (lines_from a (codes "normal") 1 (taken x es)) _ o1 c.in_ok-write_list.ensures.appends in
    owes_last _ _ _ _ (lines_from a (codes "normal") 1 (taken x es)) _ o2 c.in_ok-write_errors-2.ensures
