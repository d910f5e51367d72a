use Rattle.std.proofs.Common.{◌∷◌, ◌++◌, ◌∙◌, [], map, ap, refl, sym}
use Rattle.proc_links.specs.Put.{put_of, puts_by}
use Rattle.proc_signals.specs.Signal.{signal_of}
use Rattle.term_core.specs.declared.pid.Pid.{Pid}
use Rattle.world_model.specs.Changes as changes
use Rattle.world_model.specs.Events as events
use Rattle.world_planned.proofs.Adding.{adds_as, adds_then}
use Rattle.world_planned.proofs.Ending.{map_more}
use Rattle.world_planned.proofs.ends.put.Goals as goal

pub loop-to-preserved : goal.loop-to-preserved
loop-to-preserved c =
    let p = c.args.pid.now in
    let others = puts_by p (map put_of c.loop-to.yielded) in
    adds_as _ _ _ _ _ _ refl
    (ap (λ q. others ++ changes.SignalPut q c.in-Some.to (signal_of c.in-Some.signal) ∷ []) c.in_ok-copy.ensures
    ∙ sym (map_more (λ (t : Pid × events.Signal). changes.SignalPut p t.0 t.1) put_of c.loop-to.yielded (c.in-Some.to, c.in-Some.signal)))
    (adds_then _ _ _ _ _ _ _ c.loop-to.invariant c.in_ok-change.ensures)
