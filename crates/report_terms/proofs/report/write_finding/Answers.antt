use Rattle.std.proofs.Common.{ap, ◌∙◌}
use Rattle.std.specs.Prelude.{Err}
use Rattle.std.proofs.lemmas.Result.{err_from_is_err_and}
use Rattle.term_core.specs.inside.Writing.{owes_all, owes_last, owes_less}
use Rattle.tree_findings.specs.Found.{finding_in}
use Rattle.world_model.specs.Asking.{program_of}
use Rattle.report_explained.proofs.Parts.{last_fails, part_fails}
use Rattle.report_terms.specs.TermsReport.{finding_line, lines_below}
use Rattle.report_terms.proofs.report.write_finding.Goals as goal

pub returns-in_err-write_finding_line : goal.returns-in_err-write_finding_line
returns-in_err-write_finding_line g c =
    let p = err_from_is_err_and c.from_residual.result c.from_residual.ensures.1 in
    let o0 = owes_all _ _ in
    part_fails _ _ (g.W.Sink.contents c.write_finding_line.new.sink) (g.W.Sink.has_failed c.write_finding_line.new.sink) c.from_residual.result c.in_err-write_finding_line.field-0.0 (finding_line c.args.kind.now c.args.number (finding_in c.args.finding.now)) (lines_below (program_of c.args.program.now) (finding_in c.args.finding.now)) _ (p.1 ∙ ap Err p.2) o0 c.in_err-write_finding_line.ensures

pub returns-in_err-write_below : goal.returns-in_err-write_below
returns-in_err-write_below g c =
    let p = err_from_is_err_and c.from_residual-in_err-write_below.result c.from_residual-in_err-write_below.ensures.1 in
    let o0 = owes_all _ _ in
    let o1 = owes_less _ _ _ (finding_line c.args.kind.now c.args.number (finding_in c.args.finding.now)) (lines_below (program_of c.args.program.now) (finding_in c.args.finding.now)) _ o0 c.in_ok-write_finding_line.ensures.appends in
    last_fails _ _ (g.W.Sink.contents c.write_below.new.sink) (g.W.Sink.has_failed c.write_below.new.sink) c.from_residual-in_err-write_below.result c.in_err-write_below.field-0.0 (lines_below (program_of c.args.program.now) (finding_in c.args.finding.now)) _ (p.1 ∙ ap Err p.2) o1 c.in_err-write_below.ensures

pub returns : goal.returns
returns g c =
    let o0 = owes_all _ _ in
    let o1 = owes_less _ _ _ (finding_line c.args.kind.now c.args.number (finding_in c.args.finding.now)) (lines_below (program_of c.args.program.now) (finding_in c.args.finding.now)) _ o0 c.in_ok-write_finding_line.ensures.appends in
    owes_last _ _ _ _ (lines_below (program_of c.args.program.now) (finding_in c.args.finding.now)) _ o1 c.in_ok-write_below.ensures
