use Rattle.std.proofs.Common.{◌∷◌, [], refl, subst}
use Rattle.world_model.specs.Changes.{GuardSet, after}
use Rattle.world_model.specs.Names.{ref_of}
use Rattle.world_model.specs.Guards.{Guard}
use Rattle.world_records.specs.Records.{Agrees}
use Rattle.world_records.proofs.Changing.{only_guards}
use Rattle.world_records.proofs.records.Records.guard.Goals as goal

pub returns : goal.returns
returns c = λ m v told can.
    let ref = ref_of c.args.id.now in
    subst (λ (guard : Guard). Agrees m (record c.args.self.now { guards = c.set.new.self }) (after (GuardSet ref guard ∷ []) v)) c.in_ok-copy.ensures
    (only_guards m c.args.self.now c.set.new.self (GuardSet ref _ ∷ []) v (refl, tt) (c.in_ok-set.ensures.ok v told.guards_are) told)
