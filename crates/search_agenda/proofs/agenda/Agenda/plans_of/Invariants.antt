use Rattle.std.proofs.Common.{take}
use Rattle.std.specs.List.{filter}
use Rattle.world_model.specs.Events.{History}
use Rattle.world_model.specs.Requests.{Program}
use Rattle.world_model.specs.Run.{is_enabled}
use Rattle.search_agenda.specs.Plans.{AreStanding, IsAgenda}
use Rattle.search_agenda.proofs.agenda.Agenda.plans_of.Given as goal

-- those of the steps so far
abbrev pub invariant-loop-step : goal.invariant-loop-step
invariant-loop-step l = (a : Program) (h : History) → IsAgenda a h l.self → AreStanding a h (filter (is_enabled a h) (take l.step-index l.steps)) l.plans.items
