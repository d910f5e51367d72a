use Rattle.std.proofs.Common.{◌∷◌, [], refl}
use Rattle.world_model.specs.Changes.{MachineStarted, AliveSet}
use Rattle.world_model.specs.Requests.{Spawned}
use Rattle.world_records.proofs.Changing.{only_processes}
use Rattle.world_records.proofs.records.Records.begin.Goals as goal

pub returns : goal.returns
returns c = λ m v told.
    only_processes m c.args.self.now c.begin.new.self (MachineStarted c.args.child.now (Spawned c.args.module_name.now c.args.function_name.now c.args.arguments) ∷ AliveSet c.args.child.now ∷ []) v (refl, (refl, tt))
    (c.in_ok-begin.ensures.ok m v told.processes_are) told
