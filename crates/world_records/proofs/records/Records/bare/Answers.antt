use Rattle.std.proofs.Common.{◌∷◌, [], refl}
use Rattle.world_model.specs.Changes.{NameCleared}
use Rattle.world_records.proofs.Changing.{only_names}
use Rattle.world_records.proofs.records.Records.bare.Goals as goal

pub returns : goal.returns
returns c = λ m v told can.
    only_names m c.args.self.now c.bare.new.self (NameCleared c.args.pid.now ∷ []) v (refl, tt)
    (c.in_ok-bare.ensures.holders v told.holders_are) (c.in_ok-bare.ensures.listed v told.names_are) (c.in_ok-bare.ensures.names v told.borne_are) told
