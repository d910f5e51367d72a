use Rattle.world_steps.specs.inside.Enabling.{PutsEnabled, deliveries_of}
use Rattle.world_steps.proofs.enabled.push_deliveries.Given as goal

-- the deliveries so far are put after the others, those that are enabled
abbrev pub invariant-loop-from : goal.invariant-loop-from
invariant-loop-from l = PutsEnabled l.records (deliveries_of l.yielded) l.fn.steps.items l.steps.items
