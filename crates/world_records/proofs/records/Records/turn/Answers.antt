use Rattle.std.proofs.Common.{◌∷◌, [], refl}
use Rattle.core_eval.specs.Requests.{answered_of}
use Rattle.world_model.specs.Changes.{TurnTaken}
use Rattle.world_records.proofs.Changing.{only_processes}
use Rattle.world_records.proofs.records.Records.turn.Goals as goal

pub returns : goal.returns
returns c = λ m v told. only_processes m c.args.self.now c.turn.new.self (TurnTaken c.args.pid.now (answered_of c.args.answer ∷ []) ∷ []) v (refl, tt) (c.in_ok-turn.ensures.ok m v told.processes_are) told
