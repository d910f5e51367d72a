use Rattle.search_agenda.proofs.Putting.{puts_none, puts_delivery}
use Rattle.search_agenda.proofs.planning.put_deliveries.Goals as goal

pub loop-from-init : goal.loop-from-init
loop-from-init c = puts_none _ _ _

pub loop-from-preserved : goal.loop-from-preserved
loop-from-preserved c = puts_delivery _ _ _ _ _ _ _ c.loop-from.invariant c.in_ok-put_plan.ensures
