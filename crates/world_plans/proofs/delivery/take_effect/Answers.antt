use Rattle.std.proofs.Common.{◌∙◌, ap, sym, subst}
use Rattle.proc_links.specs.Effects.{fate_in}
use Rattle.proc_signals.specs.Signal.{signal_of}
use Rattle.world_model.specs.Changes.{after}
use Rattle.world_model.specs.Signals.{goes_with}
use Rattle.world_model.specs.Steps.{changes_of_fate, reads_if_killed}
use Rattle.world_planned.specs.inside.Planned.{Adds}
use Rattle.world_plans.proofs.Turning.{on_ok}
use Rattle.world_plans.proofs.delivery.take_effect.Goals as goal

pub returns-in-Ends : goal.returns-in-Ends
returns-in-Ends c = on_ok c.kill.result _ _ (λ adds m v told is.
    let r = c.args.to.now in
    let w = after (goes_with v c.args.from.now r (signal_of c.args.signal.now)) v in
    subst (λ e. Adds (reads_if_killed w r (fate_in e)) (changes_of_fate w r (fate_in e)) c.args.planned.now c.kill.new.planned) (sym c.in-Ends.is) (adds m v told (sym is ∙ ap fate_in c.in-Ends.is))) c.kill.ensures
