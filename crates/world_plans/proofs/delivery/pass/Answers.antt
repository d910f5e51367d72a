use Rattle.world_planned.proofs.Adding.{adds_then}
use Rattle.world_plans.proofs.delivery.pass.Goals as goal

pub returns : goal.returns
returns c = λ m v told. adds_then _ _ _ _ _ _ _ c.in_ok-read_reference.ensures (c.in_ok-reply.ensures m v told)
