use Rattle.std.proofs.Common.{ap}
use Rattle.proc_links.specs.Effects.{fate_in}
use Rattle.proc_signals.specs.Signal.{signal_of}
use Rattle.world_model.specs.Events.{Delivered}
use Rattle.world_plans.proofs.Turning.{signal_planned}
use Rattle.world_plans.proofs.delivery.deliver_signal.Goals as goal

pub returns : goal.returns
returns c = λ m v told.
    let fate = fate_in c.in_ok-effect.effect in
    let is = c.in_ok-effect.ensures m v told in
    signal_planned v c.args.from.now c.args.to.now (signal_of c.args.signal.now) _ fate _ _ _ is (ap (λ x. Delivered x fate) c.in_ok-copy.ensures) (c.in_ok-go_with.ensures m v told) (c.in_ok-take_effect.ensures m v told is)
