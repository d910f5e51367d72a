use Rattle.std.proofs.Common.{refl}
use Rattle.search_agenda.proofs.Putting.{puts_none, puts_turn}
use Rattle.search_agenda.proofs.planning.put_turns.Goals as goal

pub loop-pid-init : goal.loop-pid-init
loop-pid-init c = puts_none _ _ _

pub loop-pid-preserved : goal.loop-pid-preserved
loop-pid-preserved c = puts_turn _ _ _ _ _ _ _ _ refl c.loop-pid.invariant c.in_ok-put_plan.ensures
