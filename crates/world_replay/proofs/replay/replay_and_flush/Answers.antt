use Rattle.std.proofs.Common.{rules, ◌≡◌, true}
use Rattle.world_model.specs.Asking.{program_of}
use Rattle.world_replay.proofs.FlushLaws.{not_flushed}
use Rattle.world_replay.proofs.replay.replay_and_flush.Goals as goal

pub returns-then-is_err-clause-replay : goal.returns-then-is_err-clause-replay
returns-then-is_err-clause-replay g c =
    let failed : g.W.Sink.has_failed c.flush.new.self ≡ true = search rules in
    not_flushed (program_of c.args.program.now) c.args.steps.now (g.W.Sink.contents c.args.sink.now) (g.W.Sink.contents c.replay-outcome.new.sink) (g.W.Sink.contents c.flush.new.self)
    (g.W.Sink.has_failed c.replay-outcome.new.sink) (g.W.Sink.has_failed c.flush.new.self) c.replay-outcome.result c.replay-outcome.ensures c.flush.ensures.bytes failed
