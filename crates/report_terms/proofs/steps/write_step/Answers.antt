use Rattle.std.proofs.Common.{ap, ◌∙◌}
use Rattle.std.specs.Prelude.{Err}
use Rattle.std.proofs.lemmas.Result.{err_from_is_err_and}
use Rattle.world_model.specs.Asking.{program_of}
use Rattle.world_model.specs.Run.{next_event}
use Rattle.world_footprints.specs.Deeds.{event_in}
use Rattle.report_terms.proofs.StepLaws.{line_fails, next_is}
use Rattle.report_terms.proofs.steps.write_step.Goals as goal

pub returns-in_err-write_event_line-clause-step : goal.returns-in_err-write_event_line-clause-step
returns-in_err-write_event_line-clause-step g c =
    let p = err_from_is_err_and c.from_residual.result c.from_residual.ensures.1 in
    let a = program_of c.args.world.now.program in
    let h = c.args.world.now.history in
    let next = next_is (next_event a h c.args.step.now) h c.step.new.self.history _ c.in-Ok.ensures.ok c.in-Some.ensures.event in
    line_fails a h c.args.number c.args.step.now (event_in c.in-Some.event.now) (g.W.Sink.contents c.args.sink.now) (g.W.Sink.contents c.write_event_line.new.sink) (g.W.Sink.has_failed c.write_event_line.new.sink) c.step.new.self.history
    c.from_residual.result c.in_err-write_event_line.field-0.0 (p.1 ∙ ap Err p.2) next c.in_err-write_event_line.ensures
