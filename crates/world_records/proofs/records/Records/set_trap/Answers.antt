use Rattle.std.proofs.Common.{◌∷◌, [], refl}
use Rattle.proc_links.specs.Process.{are_trapped}
use Rattle.world_model.specs.Changes.{TrapSet}
use Rattle.world_records.proofs.Changing.{only_processes}
use Rattle.world_records.proofs.records.Records.set_trap.Goals as goal

pub returns : goal.returns
returns c = λ m v told. only_processes m c.args.self.now c.set_trap.new.self (TrapSet c.args.pid.now (are_trapped c.args.exits) ∷ []) v (refl, tt) (c.in_ok-set_trap.ensures.ok m v told.processes_are) told
