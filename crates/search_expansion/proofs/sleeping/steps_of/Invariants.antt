use Rattle.std.proofs.Common.{◌≡◌, take}
use Rattle.search_agenda.specs.Plans.{steps_in}
use Rattle.search_expansion.proofs.sleeping.steps_of.Given as goal

-- those of the plans before this one
abbrev pub invariant-loop-plan : goal.invariant-loop-plan
invariant-loop-plan l = l.steps.items ≡ steps_in (take l.plan-index l.plans)
