use Rattle.world_steps.proofs.Listed.{puts_none, puts_turn}
use Rattle.world_steps.proofs.enabled.push_turns.Goals as goal

pub loop-pid-init : goal.loop-pid-init
loop-pid-init c = puts_none _ _

pub loop-pid-preserved : goal.loop-pid-preserved
loop-pid-preserved c = puts_turn _ _ _ _ _ _ _ c.in_ok-copy.ensures c.loop-pid.invariant c.in_ok-push_if_enabled.ensures
