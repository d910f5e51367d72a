use Rattle.std.proofs.Common.{ap, ◌∙◌}
use Rattle.std.specs.Prelude.{Err}
use Rattle.std.proofs.lemmas.Result.{err_from_is_err_and}
use Rattle.world_model.specs.Asking.{program_of}
use Rattle.report_terms.proofs.StepLaws.{step_fails, step_goes_on, steps_begin, steps_end}
use Rattle.report_terms.proofs.steps.write_steps.Goals as goal

pub loop-index-init : goal.loop-index-init
loop-index-init g c =
    steps_begin (program_of c.args.world.now.program) c.args.steps.now (g.W.Sink.contents c.args.sink.now) (g.W.Sink.has_failed c.args.sink.now) c.args.world.now.history c.args.world.now.spent
    c.requires.sound c.requires.lives c.requires.begins

pub returns-in_err-is_enabled-clause-written : goal.returns-in_err-is_enabled-clause-written
returns-in_err-is_enabled-clause-written g c =
    let p = err_from_is_err_and c.from_residual.result c.from_residual.ensures.1 in
    step_fails (program_of c.args.world.now.program) c.args.steps.now (g.W.Sink.contents c.args.sink.now) (g.W.Sink.contents c.loop-index.sink) (g.W.Sink.contents c.write_step.new.sink)
    (g.W.Sink.has_failed c.loop-index.sink) (g.W.Sink.has_failed c.write_step.new.sink)
    (program_of c.loop-index.world.program) c.loop-index.world.history c.write_step.new.world.history c.loop-index.world.spent c.loop-index.index c.index-steps-index.result
    c.from_residual.result c.in_err-is_enabled.field-0.0 (p.1 ∙ ap Err p.2)
    c.loop-index.invariant c.loop-index-test.true c.index-steps-index.is c.in_err-is_enabled.ensures.step

pub loop-index-preserved : goal.loop-index-preserved
loop-index-preserved g c =
    step_goes_on (program_of c.args.world.now.program) c.args.steps.now (g.W.Sink.contents c.args.sink.now) (g.W.Sink.contents c.loop-index.sink) (g.W.Sink.contents c.write_step.new.sink)
    (g.W.Sink.has_failed c.loop-index.sink) (g.W.Sink.has_failed c.write_step.new.sink)
    (program_of c.loop-index.world.program) c.loop-index.world.history c.write_step.new.world.history c.loop-index.world.spent c.loop-index.index c.index-steps-index.result
    (program_of c.write_step.new.world.program) c.write_step.new.world.spent c.in_ok-is_enabled.is_enabled c.if-not-is_enabled.false
    c.loop-index.invariant c.loop-index-test.true c.index-steps-index.is c.in_ok-is_enabled.ensures.step c.in_ok-is_enabled.ensures.lives (ap program_of c.in_ok-is_enabled.ensures.program)

pub returns-clause-written : goal.returns-clause-written
returns-clause-written g c =
    (steps_end (program_of c.args.world.now.program) c.args.steps.now (g.W.Sink.contents c.args.sink.now) (g.W.Sink.contents c.loop-index.sink) (g.W.Sink.has_failed c.loop-index.sink)
    (program_of c.loop-index.world.program) c.loop-index.world.history c.loop-index.world.spent c.loop-index.index c.loop-index.invariant c.loop-index-test.false).0

pub returns-clause-history : goal.returns-clause-history
returns-clause-history g c =
    (steps_end (program_of c.args.world.now.program) c.args.steps.now (g.W.Sink.contents c.args.sink.now) (g.W.Sink.contents c.loop-index.sink) (g.W.Sink.has_failed c.loop-index.sink)
    (program_of c.loop-index.world.program) c.loop-index.world.history c.loop-index.world.spent c.loop-index.index c.loop-index.invariant c.loop-index-test.false).1
