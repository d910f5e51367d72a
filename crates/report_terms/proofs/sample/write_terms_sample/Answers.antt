use Rattle.std.proofs.Common.{◌++◌, ap, ◌∙◌}
use Rattle.std.specs.Prelude.{Err}
use Rattle.std.proofs.lemmas.Result.{err_from_is_err_and}
use Rattle.term_core.specs.inside.Writing.{owes_all, owes_last, owes_less}
use Rattle.tree_excuses.specs.Excuses.{excuses_in}
use Rattle.world_model.specs.Asking.{program_of}
use Rattle.report_explained.specs.declared.explain_fault.ExplainFault.TheVariants.{Write}
use Rattle.report_explained.proofs.Parts.{last_fails, part_fails}
use Rattle.report_terms.specs.TermsReport.{counts_line, lines_of_findings, sample_result_line, sampled_line}
use Rattle.report_terms.proofs.sample.write_terms_sample.Goals as goal

pub returns-in_err-write_sampled : goal.returns-in_err-write_sampled
returns-in_err-write_sampled g c =
    let p = err_from_is_err_and c.from_residual.result c.from_residual.ensures.1 in
    let a = program_of c.args.program.now in
    let x = excuses_in c.args.excuses.now in
    let fs = c.args.findings.now in
    let o0 = owes_all _ _ in
    part_fails _ _ (g.W.Sink.contents c.write_sampled.new.sink) (g.W.Sink.has_failed c.write_sampled.new.sink) c.from_residual.result Write (sampled_line c.args.sampled) (lines_of_findings a x fs ++ (counts_line x fs ++ sample_result_line x fs)) _ (p.1 ∙ ap Err p.2) o0 c.in_err-write_sampled.ensures

pub returns-in_err-write_findings : goal.returns-in_err-write_findings
returns-in_err-write_findings g c =
    let p = err_from_is_err_and c.from_residual-in_err-write_findings.result c.from_residual-in_err-write_findings.ensures.1 in
    let a = program_of c.args.program.now in
    let x = excuses_in c.args.excuses.now in
    let fs = c.args.findings.now in
    let o0 = owes_all _ _ in
    let o1 = owes_less _ _ _ (sampled_line c.args.sampled) (lines_of_findings a x fs ++ (counts_line x fs ++ sample_result_line x fs)) _ o0 c.in_ok-write_sampled.ensures.appends in
    part_fails _ _ (g.W.Sink.contents c.write_findings.new.sink) (g.W.Sink.has_failed c.write_findings.new.sink) c.from_residual-in_err-write_findings.result c.in_err-write_findings.field-0.0 (lines_of_findings a x fs) (counts_line x fs ++ sample_result_line x fs) _ (p.1 ∙ ap Err p.2) o1 c.in_err-write_findings.ensures

pub returns-in_err-write_counts : goal.returns-in_err-write_counts
returns-in_err-write_counts g c =
    let p = err_from_is_err_and c.from_residual-in_err-write_counts.result c.from_residual-in_err-write_counts.ensures.1 in
    let a = program_of c.args.program.now in
    let x = excuses_in c.args.excuses.now in
    let fs = c.args.findings.now in
    let o0 = owes_all _ _ in
    let o1 = owes_less _ _ _ (sampled_line c.args.sampled) (lines_of_findings a x fs ++ (counts_line x fs ++ sample_result_line x fs)) _ o0 c.in_ok-write_sampled.ensures.appends in
    let o2 = owes_less _ _ _ (lines_of_findings a x fs) (counts_line x fs ++ sample_result_line x fs) _ o1 c.in_ok-write_findings.ensures.appends in
    part_fails _ _ (g.W.Sink.contents c.write_counts.new.sink) (g.W.Sink.has_failed c.write_counts.new.sink) c.from_residual-in_err-write_counts.result Write (counts_line x fs) (sample_result_line x fs) _ (p.1 ∙ ap Err p.2) o2 c.in_err-write_counts.ensures

pub returns-in_err-write_sample_result : goal.returns-in_err-write_sample_result
returns-in_err-write_sample_result g c =
    let p = err_from_is_err_and c.from_residual-in_err-write_sample_result.result c.from_residual-in_err-write_sample_result.ensures.1 in
    let a = program_of c.args.program.now in
    let x = excuses_in c.args.excuses.now in
    let fs = c.args.findings.now in
    let o0 = owes_all _ _ in
    let o1 = owes_less _ _ _ (sampled_line c.args.sampled) (lines_of_findings a x fs ++ (counts_line x fs ++ sample_result_line x fs)) _ o0 c.in_ok-write_sampled.ensures.appends in
    let o2 = owes_less _ _ _ (lines_of_findings a x fs) (counts_line x fs ++ sample_result_line x fs) _ o1 c.in_ok-write_findings.ensures.appends in
    let o3 = owes_less _ _ _ (counts_line x fs) (sample_result_line x fs) _ o2 c.in_ok-write_counts.ensures.appends in
    last_fails _ _ (g.W.Sink.contents c.write_sample_result.new.sink) (g.W.Sink.has_failed c.write_sample_result.new.sink) c.from_residual-in_err-write_sample_result.result Write (sample_result_line x fs) _ (p.1 ∙ ap Err p.2) o3 c.in_err-write_sample_result.ensures

pub returns : goal.returns
returns g c =
    let a = program_of c.args.program.now in
    let x = excuses_in c.args.excuses.now in
    let fs = c.args.findings.now in
    let o0 = owes_all _ _ in
    let o1 = owes_less _ _ _ (sampled_line c.args.sampled) (lines_of_findings a x fs ++ (counts_line x fs ++ sample_result_line x fs)) _ o0 c.in_ok-write_sampled.ensures.appends in
    let o2 = owes_less _ _ _ (lines_of_findings a x fs) (counts_line x fs ++ sample_result_line x fs) _ o1 c.in_ok-write_findings.ensures.appends in
    let o3 = owes_less _ _ _ (counts_line x fs) (sample_result_line x fs) _ o2 c.in_ok-write_counts.ensures.appends in
    owes_last _ _ _ _ (sample_result_line x fs) _ o3 c.in_ok-write_sample_result.ensures
