use Rattle.world_steps.specs.inside.Enabling.{deliveries_of}
use Rattle.search_agenda.specs.inside.Planning.{PutsPlans}
use Rattle.search_agenda.proofs.planning.put_deliveries.Given as goal

-- the plans of the deliveries so far are put after the others
abbrev pub invariant-loop-from : goal.invariant-loop-from
invariant-loop-from l = PutsPlans l.records l.above (deliveries_of l.yielded) l.fn.plans.items l.plans.items
