use Rattle.std.proofs.Common.{sym, ap, subst, ◌∙◌}
use Rattle.std.specs.Prelude.{Result, Err}
use Rattle.std.proofs.lemmas.Result.{err_from_is_err_and}
use Rattle.world_core.specs.Seen.{Seen}
use Rattle.world_model.specs.Asking.{program_of}
use Rattle.world_replay.specs.Replay.{Replays}
use Rattle.world_replay.specs.declared.replay_fault.ReplayFault.{ReplayFault}
use Rattle.world_replay.proofs.ReplayLaws.{SoFar, begins, goes_on, stops_there, ends}
use Rattle.world_replay.proofs.replay.replay.Goals as goal

pub loop-index-init : goal.loop-index-init
loop-index-init g c =
    let start = g.W.Sink.contents c.args.sink.now in
    let failed = g.W.Sink.has_failed c.args.sink.now in
    subst (λ (w : Seen). SoFar (program_of c.args.program.now) c.args.steps.now start start failed (program_of w.program) w.history w.spent 0) (sym c.in-Ok.ensures)
    (begins (program_of c.args.program.now) c.args.steps.now start failed c.requires)

pub returns-in_err-replay_step : goal.returns-in_err-replay_step
returns-in_err-replay_step g c =
    let p = err_from_is_err_and c.from_residual.result c.from_residual.ensures.1 in
    let start = g.W.Sink.contents c.args.sink.now in
    let new = g.W.Sink.contents c.replay_step.new.sink in
    let failed = g.W.Sink.has_failed c.replay_step.new.sink in
    subst (λ (r : Result (Unit {0}) ReplayFault). Replays (program_of c.args.program.now) c.args.steps.now start new failed r) (sym (p.1 ∙ ap Err p.2))
    (stops_there (program_of c.args.program.now) c.args.steps.now start (g.W.Sink.contents c.loop-index.sink) new (g.W.Sink.has_failed c.loop-index.sink) failed
    (program_of c.loop-index.world.program) c.loop-index.world.history c.replay_step.new.world.history c.loop-index.world.spent c.loop-index.index c.index-steps-index.result c.in_err-replay_step.field-0.0
    c.loop-index.invariant c.loop-index-test.true c.index-steps-index.is c.in_err-replay_step.ensures.step)

pub loop-index-preserved : goal.loop-index-preserved
loop-index-preserved g c =
    goes_on (program_of c.args.program.now) c.args.steps.now (g.W.Sink.contents c.args.sink.now) (g.W.Sink.contents c.loop-index.sink) (g.W.Sink.contents c.replay_step.new.sink)
    (g.W.Sink.has_failed c.loop-index.sink) (g.W.Sink.has_failed c.replay_step.new.sink)
    (program_of c.loop-index.world.program) (program_of c.replay_step.new.world.program) c.loop-index.world.history c.replay_step.new.world.history c.loop-index.world.spent c.replay_step.new.world.spent
    c.loop-index.index c.index-steps-index.result
    c.loop-index.invariant c.loop-index-test.true c.index-steps-index.is
    c.in_ok-replay_step.ensures.step c.in_ok-replay_step.ensures.lives (ap program_of c.in_ok-replay_step.ensures.program)

pub returns : goal.returns
returns g c =
    ends (program_of c.args.program.now) c.args.steps.now (g.W.Sink.contents c.args.sink.now) (g.W.Sink.contents c.loop-index.sink) (g.W.Sink.has_failed c.loop-index.sink)
    (program_of c.loop-index.world.program) c.loop-index.world.history c.loop-index.world.spent c.loop-index.index c.loop-index.invariant c.loop-index-test.false
