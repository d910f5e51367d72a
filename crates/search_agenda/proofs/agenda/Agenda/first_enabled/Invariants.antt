use Rattle.std.proofs.Common.{◌≡◌, drop}
use Rattle.search_agenda.specs.Plans.{enabled_in}
use Rattle.search_agenda.proofs.agenda.Agenda.first_enabled.Given as goal

-- none of the plans so far is of a step that is enabled
abbrev pub invariant-loop-plan : goal.invariant-loop-plan
invariant-loop-plan l = enabled_in l.plans ≡ enabled_in (drop l.plan-index l.plans)
