use Rattle.std.proofs.Common.{◌∷◌, [], refl, sym, subst}
use Rattle.proc_links.specs.Links.{AreLinks}
use Rattle.proc_signals.specs.Signal.{signal_of}
use Rattle.world_model.specs.Changes.{AliveCleared, MachineHalted, after}
use Rattle.world_model.specs.Signals.{goes_with}
use Rattle.world_planned.proofs.Adding.{adds_as, adds_then}
use Rattle.world_planned.proofs.Seeing.{sees_killed}
use Rattle.world_plans.proofs.delivery.kill.Goals as goal

pub returns : goal.returns
returns c = λ m v told kills.
    let s = c.args.from.now in
    let r = c.args.to.now in
    let x = signal_of c.args.signal.now in
    let w = after (goes_with v s r x) v in
    let dies = adds_as _ _ _ _ _ _ refl (λ i. MachineHalted (c.in_ok-copy.ensures i) (c.in_ok-copy-2.ensures i) ∷ AliveCleared (c.in_ok-copy.ensures i) ∷ []) c.in_ok-change.ensures in
    adds_then _ _ _ _ _ _ _ dies (c.in_ok-leave.ensures w (sees_killed m c.args.records.now c.in_ok-links.links v s r x _ told kills (c.in_ok-links.ensures v (subst (λ l. AreLinks l v) (sym c.links.ensures) told.links_are))))
