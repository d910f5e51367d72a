use Rattle.std.proofs.Common.{◌∷◌, [], refl}
use Rattle.world_model.specs.Changes.{TurnTaken, MachineHalted, AliveCleared}
use Rattle.world_records.proofs.Changing.{only_processes}
use Rattle.world_records.proofs.records.Records.end_turn.Goals as goal

pub returns : goal.returns
returns c = λ m v reason told.
    let p = c.args.pid.now in
    only_processes m c.args.self.now c.end.new.self (TurnTaken p [] ∷ MachineHalted p reason ∷ AliveCleared p ∷ []) v (refl, (refl, (refl, tt))) (c.in_ok-end.ensures.ok m v reason told.processes_are) told
