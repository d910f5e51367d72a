use Rattle.world_planned.proofs.Adding.{adds_then}
use Rattle.world_plans.proofs.Turning.{if_ok, turn_steps}
use Rattle.world_plans.proofs.step.add_turn.Goals as goal

pub returns : goal.returns
returns c = if_ok c.plan_turn.result _ _ (λ deed plans m v told meant lives.
    turn_steps _ v c.args.pid.now deed _ _ _ lives (adds_then _ _ _ _ _ _ _ c.in_ok-read_process.ensures c.in_ok-read_process-2.ensures) (plans m v told meant lives) (λ rs ss ks ls first second. adds_then rs ss ks ls _ _ _ first second)) c.plan_turn.ensures
