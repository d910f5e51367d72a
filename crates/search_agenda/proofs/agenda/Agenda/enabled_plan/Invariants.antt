use Rattle.std.proofs.Common.{◌≡◌, drop}
use Rattle.tree_coverage.specs.Explored.{same_step}
use Rattle.tree_sleep_sets.specs.Search.{is_among}
use Rattle.search_agenda.specs.Plans.{enabled_in}
use Rattle.search_agenda.proofs.agenda.Agenda.enabled_plan.Given as goal

-- the step is not enabled by the plans so far
abbrev pub invariant-loop-plan : goal.invariant-loop-plan
invariant-loop-plan l = is_among same_step (enabled_in l.plans) l.step ≡ is_among same_step (enabled_in (drop l.plan-index l.plans)) l.step
