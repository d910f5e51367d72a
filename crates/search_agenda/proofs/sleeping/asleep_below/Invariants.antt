use Rattle.std.proofs.Common.{◌≡◌, ◌∷◌, Some, take}
use Rattle.std.specs.List.{filter}
use Rattle.world_model.specs.Events.{Event, History}
use Rattle.world_model.specs.Independence.{are_independent}
use Rattle.world_model.specs.Requests.{Program}
use Rattle.world_model.specs.Run.{next_event}
use Rattle.search_agenda.specs.Plans.{ArePlans, IsPlan, steps_in}
use Rattle.search_agenda.proofs.sleeping.asleep_below.Given as goal

-- of those so far, the ones that are independent of the step; and their plans hold below it
abbrev pub invariant-loop-other : goal.invariant-loop-other
invariant-loop-other l =
    ((a : Program) (h : History) → ArePlans a h l.slept → IsPlan a h l.taken → steps_in l.asleep.items ≡ filter (are_independent a h l.taken.step) (steps_in (take l.other-index l.slept)))
    × ((a : Program) (h : History) (e : Event) → ArePlans a h l.slept → IsPlan a h l.taken → next_event a h l.taken.step ≡ Some e → ArePlans a (e ∷ h) l.asleep.items)
