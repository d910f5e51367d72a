use Rattle.std.proofs.Common.{ap, refl, ◌∙◌}
use Rattle.std.specs.Prelude.{Err}
use Rattle.std.proofs.lemmas.Result.{err_from_is_err_and}
use Rattle.term_core.specs.inside.Writing.{owes_all, owes_last, owes_less, owes_same}
use Rattle.tree_findings.specs.Found.{finding_in}
use Rattle.world_identities.specs.Identities.{identity_in}
use Rattle.world_core.specs.Seen.{program_in}
use Rattle.world_model.specs.Asking.{program_of}
use Rattle.world_replay.specs.Replay.{reached}
use Rattle.report_explained.proofs.Parts.{last_fails, part_fails}
use Rattle.report_terms.specs.TermsReport.{event_lines, who_waits}
use Rattle.report_terms.proofs.ReportTexts.{below-parts}
use Rattle.report_terms.proofs.report.write_below.Goals as goal

pub returns-in_err-write_steps : goal.returns-in_err-write_steps
returns-in_err-write_steps g c =
    let p = err_from_is_err_and c.from_residual.result c.from_residual.ensures.1 in
    let a = program_in c.in-Ok.world in
    let leads = reached a c.as_slice.result.now in
    let o = owes_same _ _ _ _ _ (below-parts (program_of c.args.program.now) a (finding_in c.args.finding.now) c.as_slice.result.now leads (ap program_in c.in-Ok.ensures) c.as_slice.ensures.value refl) (owes_all _ _) in
    part_fails _ _ (g.W.Sink.contents c.write_steps.new.sink) (g.W.Sink.has_failed c.write_steps.new.sink) c.from_residual.result c.in_err-write_steps.field-0.0
    (event_lines leads) (who_waits leads (identity_in c.args.finding.now.identity)) _ (p.1 ∙ ap Err p.2) o c.in_err-write_steps.ensures.written

pub returns-in_err-write_waits : goal.returns-in_err-write_waits
returns-in_err-write_waits g c =
    let p = err_from_is_err_and c.from_residual-in_err-write_waits.result c.from_residual-in_err-write_waits.ensures.1 in
    let a = program_in c.in-Ok.world in
    let leads = reached a c.as_slice.result.now in
    let h = c.write_steps.new.world.history in
    let o = owes_same _ _ _ _ _ (below-parts (program_of c.args.program.now) a (finding_in c.args.finding.now) c.as_slice.result.now h (ap program_in c.in-Ok.ensures) c.as_slice.ensures.value c.in_ok-write_steps.ensures.history) (owes_all _ _) in
    let o1 = owes_less _ _ _ (event_lines leads) (who_waits h (identity_in c.args.finding.now.identity)) _ o c.in_ok-write_steps.ensures.written.appends in
    last_fails _ _ (g.W.Sink.contents c.write_waits.new.sink) (g.W.Sink.has_failed c.write_waits.new.sink) c.from_residual-in_err-write_waits.result c.in_err-write_waits.field-0.0
    (who_waits h (identity_in c.args.finding.now.identity)) _ (p.1 ∙ ap Err p.2) o1 c.in_err-write_waits.ensures

pub returns : goal.returns
returns g c =
    let a = program_in c.in-Ok.world in
    let leads = reached a c.as_slice.result.now in
    let h = c.write_steps.new.world.history in
    let o = owes_same _ _ _ _ _ (below-parts (program_of c.args.program.now) a (finding_in c.args.finding.now) c.as_slice.result.now h (ap program_in c.in-Ok.ensures) c.as_slice.ensures.value c.in_ok-write_steps.ensures.history) (owes_all _ _) in
    let o1 = owes_less _ _ _ (event_lines leads) (who_waits h (identity_in c.args.finding.now.identity)) _ o c.in_ok-write_steps.ensures.written.appends in
    owes_last _ _ _ _ (who_waits h (identity_in c.args.finding.now.identity)) _ o1 c.in_ok-write_waits.ensures
