use Rattle.std.proofs.Common.{◌∷◌, [], refl}
use Rattle.world_model.specs.Changes.{NameSet, HolderSet}
use Rattle.world_records.proofs.Changing.{only_names}
use Rattle.world_records.proofs.records.Records.give_name.Goals as goal

pub returns : goal.returns
returns c = λ m v told can.
    only_names m c.args.self.now c.put.new.self (HolderSet c.args.name.now c.args.pid.now ∷ NameSet c.args.pid.now c.args.name.now ∷ []) v (refl, (refl, tt))
    (c.in_ok-put.ensures.holders v told.holders_are) (c.in_ok-put.ensures.listed v told.names_are) (c.in_ok-put.ensures.names v told.borne_are) told
