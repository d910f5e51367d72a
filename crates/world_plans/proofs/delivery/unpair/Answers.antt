use Rattle.std.proofs.Common.{◌∷◌, ap, refl}
use Rattle.std.specs.List.{list_any}
use Rattle.world_model.specs.Cells as cells
use Rattle.world_model.specs.Names.{same_pid}
use Rattle.world_model.specs.Signals.{pair_goes, trap_if}
use Rattle.world_planned.proofs.Adding.{adds_as, adds_then, end_nil}
use Rattle.world_plans.proofs.delivery.unpair.Goals as goal

pub returns : goal.returns
returns c = λ m v told.
    let p = c.args.from.now in
    let q = c.args.to.now in
    let gone = adds_as _ _ _ _ _ _ refl (λ i. pair_goes (c.in_ok-copy.ensures i) (c.in_ok-copy-2.ensures i)) c.in_ok-change.ensures in
    adds_as _ _ _ _ _ _ (ap (λ cs. cells.Links q ∷ cells.Links p ∷ cs) (end_nil (trap_if (list_any (same_pid p) (v (cells.Links q))) q))) refl
    (adds_then _ _ _ _ _ _ _ c.in_ok-read_process.ensures (adds_then _ _ _ _ _ _ _ c.in_ok-read_process-2.ensures (adds_then _ _ _ _ _ _ _ (c.in_ok-read_flag.ensures m v told) gone)))
