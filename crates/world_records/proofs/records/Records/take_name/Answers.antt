use Rattle.std.proofs.Common.{◌∷◌, [], refl}
use Rattle.world_model.specs.Changes.{NameCleared, HolderCleared}
use Rattle.world_records.proofs.Changing.{only_names}
use Rattle.world_records.proofs.records.Records.take_name.Goals as goal

pub returns : goal.returns
returns c = λ m v told can.
    only_names m c.args.self.now c.take.new.self (HolderCleared c.args.name.now ∷ NameCleared c.args.pid.now ∷ []) v (refl, (refl, tt))
    (c.in_ok-take.ensures.holders v told.holders_are) (c.in_ok-take.ensures.listed v told.names_are) (c.in_ok-take.ensures.names v told.borne_are) told
