use Rattle.world_plans.proofs.Turning.{signal_delivered}
use Rattle.world_plans.proofs.delivery.plan_delivery.Goals as goal

pub returns : goal.returns
returns c = λ m v told. signal_delivered v c.args.from.now c.args.to.now _ c.in_ok-deed.deed _ _ (c.in-Some.ensures m v told) (c.in_ok-deed.ensures m v told)
