use Rattle.std.proofs.Common.{◌∷◌, [], ap, refl}
use Rattle.world_model.specs.Changes.{GuardCleared}
use Rattle.world_model.specs.Names.{ref_of}
use Rattle.world_model.specs.Signals.{watch_goes}
use Rattle.world_planned.proofs.Adding.{adds_as, adds_then}
use Rattle.world_planned.proofs.guarding.end_alias.Goals as goal

pub returns : goal.returns
returns c = λ m v told.
    let ref = ref_of c.args.reference.now in
    adds_as _ _ _ _ _ _ refl (ap (λ o. GuardCleared ref ∷ watch_goes ref o) (c.watched.ensures m v told))
    (adds_then _ _ _ _ _ _ _ c.in_ok-read_reference.ensures (adds_then _ _ _ _ _ _ _ (adds_as _ _ _ _ _ _ refl (ap (λ id. GuardCleared (ref_of id) ∷ []) c.in_ok-copy.ensures) c.in_ok-change.ensures) c.in_ok-clear_watch.ensures))
