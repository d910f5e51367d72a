use Rattle.std.proofs.Common.{◌∷◌, [], refl}
use Rattle.world_model.specs.Changes.{WatcherRemoved, WatchCleared}
use Rattle.world_model.specs.ProcessLines.{noproc}
use Rattle.world_model.specs.Names.{ref_of}
use Rattle.world_records.proofs.Changing.{only_watchers}
use Rattle.world_records.proofs.records.Records.unwatch.Goals as goal

pub returns : goal.returns
returns c = λ m v told can.
    let ref = ref_of c.args.id.now in
    let p = c.args.target.now in
    only_watchers m c.args.self.now c.unwatch.new.self (WatchCleared ref ∷ WatcherRemoved p ref ∷ []) v (refl, (refl, tt))
    (c.in_ok-unwatch.ensures.watchers v p noproc told.watchers_are) (c.in_ok-unwatch.ensures.watches v p noproc told.watches_are) told
