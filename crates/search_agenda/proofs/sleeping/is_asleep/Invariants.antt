use Rattle.std.proofs.Common.{◌≡◌, drop}
use Rattle.tree_coverage.specs.Explored.{same_step}
use Rattle.tree_sleep_sets.specs.Search.{is_among}
use Rattle.search_agenda.specs.Plans.{steps_in}
use Rattle.search_agenda.proofs.sleeping.is_asleep.Given as goal

-- none of the plans so far is of the step
abbrev pub invariant-loop-plan : goal.invariant-loop-plan
invariant-loop-plan l = is_among same_step (steps_in l.slept) l.step ≡ is_among same_step (steps_in (drop l.plan-index l.slept)) l.step
