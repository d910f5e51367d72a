use Rattle.std.proofs.Common.{◌≡◌, drop, filter}
use Rattle.tree_schedules.specs.Deliveries.{is_at_once}
use Rattle.search_samples.proofs.drawing.first_at_once.Given as goal

-- none of the steps so far delivers a signal that arrives at once
abbrev pub invariant-loop-step : goal.invariant-loop-step
invariant-loop-step l = filter (is_at_once l.world.history) l.steps ≡ filter (is_at_once l.world.history) (drop l.step-index l.steps)
