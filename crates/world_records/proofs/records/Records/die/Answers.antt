use Rattle.std.proofs.Common.{◌∷◌, [], refl}
use Rattle.term_core.specs.Term.{meaning_of}
use Rattle.world_model.specs.Changes.{MachineHalted, AliveCleared}
use Rattle.world_records.proofs.Changing.{only_processes}
use Rattle.world_records.proofs.records.Records.die.Goals as goal

pub returns : goal.returns
returns c = λ m v told can.
    let p = c.args.pid.now in
    let reason = meaning_of c.args._reason.now in
    only_processes m c.args.self.now c.kill.new.self (MachineHalted p reason ∷ AliveCleared p ∷ []) v (refl, (refl, tt)) (c.in_ok-kill.ensures.ok m v reason told.processes_are) told
