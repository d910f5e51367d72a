use Rattle.std.proofs.Common.{◌∷◌, [], refl}
use Rattle.world_model.specs.Changes.{GuardUnwatched}
use Rattle.world_model.specs.Names.{ref_of}
use Rattle.world_records.proofs.Changing.{only_guards}
use Rattle.world_records.proofs.records.Records.end_watched.Goals as goal

pub returns : goal.returns
returns c = λ m v told can.
    only_guards m c.args.self.now c.unwatch.new.self (GuardUnwatched (ref_of c.args.id.now) ∷ []) v (refl, tt) (c.in_ok-unwatch.ensures.ok v told.guards_are) told
