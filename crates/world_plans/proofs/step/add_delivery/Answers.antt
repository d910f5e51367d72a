use Rattle.world_planned.proofs.Adding.{adds_then}
use Rattle.world_plans.proofs.Turning.{delivery_steps, if_ok}
use Rattle.world_plans.proofs.step.add_delivery.Goals as goal

pub returns : goal.returns
returns c = if_ok c.plan_delivery.result _ _ (λ deed plans m v told lives.
    delivery_steps _ v c.args.from.now c.args.to.now deed _ _ _ lives (adds_then _ _ _ _ _ _ _ c.in_ok-read_process.ensures c.in_ok-read_channel.ensures) (plans m v told) (λ rs ss ks ls first second. adds_then rs ss ks ls _ _ _ first second)) c.plan_delivery.ensures
