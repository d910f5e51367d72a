use Rattle.std.proofs.Common.{◌≤◌, drop, length, reverse}
use Rattle.world_model.specs.Events.{History}
use Rattle.world_model.specs.Requests.{Program}
use Rattle.search_agenda.specs.Plans.{AreStanding, IsAgenda}
use Rattle.search_agenda.proofs.Looking.{awake_in}
use Rattle.search_agenda.proofs.agenda.Agenda.awake_backwards.Given as goal

-- the plans from this one on that are enabled and do not sleep are in the line
abbrev pub invariant-loop-left : goal.invariant-loop-left
invariant-loop-left l = (l.left ≤ length l.plans) × ((a : Program) (h : History) → IsAgenda a h l.self → AreStanding a h (awake_in l.slept (drop l.left l.plans)) (reverse l.line.items))

abbrev pub decreases-loop-left : goal.decreases-loop-left
decreases-loop-left l = l.left
