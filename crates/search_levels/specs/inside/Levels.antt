-- Levels: what is kept of the worlds to which schedules of one length lead.
use Rattle.std.specs.List.Sorted.{IsStrictlySortedBy}
use Rattle.std.specs.Prelude.{◌≡◌, ◌∷◌, ◌++◌, [], ℕ, List, Some, length}
use Rattle.std.specs.declared.cmp.Ordering.TheVariants.{Less}
use Rattle.search_levels.specs.inside.Paths.{schedule_in}
use Rattle.search_levels.specs.inside.Visits.{Visit}
use Rattle.term_core.specs.StepOrder.{order_of_schedules}
use Rattle.term_core.specs.declared.step.Step.{Step}
use Rattle.tree_schedules.specs.Deliveries.{DeliversBy}
use Rattle.tree_schedules.specs.StandIns.{IsUpTo}
use Rattle.tree_schedules.specs.declared.delivery.Delivery.{Delivery}
use Rattle.world_model.specs.Events.{History}
use Rattle.world_model.specs.Names.{IsAmong}
use Rattle.world_model.specs.Requests.{Program}
use Rattle.world_model.specs.Run.{run}

-- a schedule of so many steps that delivers signals so and runs, with what agrees with its history
abbrev pub IsAt : Delivery → (List ℕ → Program → History → Type 0) → Program → ℕ → Visit → Type 0
IsAt d Agrees a k x = (length (schedule_in x.of) ≡ k) × DeliversBy d a (schedule_in x.of) × (h : History) × (run a (schedule_in x.of) ≡ Some h) × Agrees x.row a h

abbrev pub AreAt : Delivery → (List ℕ → Program → History → Type 0) → Program → ℕ → List Visit → Type 0
AreAt d Agrees a k level = (x : Visit) → IsAmong x level → IsAt d Agrees a k x

-- the schedules of the level come in their order, each before all that follow it
abbrev pub ComeInOrder : List Visit → Type 0
ComeInOrder level = IsStrictlySortedBy (λ (x y : Visit). order_of_schedules (schedule_in x.of) (schedule_in y.of)) level

-- each of them comes before this one
abbrev pub AreBefore : List Visit → List Step → Type 0
AreBefore level s = (x : Visit) → IsAmong x level → order_of_schedules (schedule_in x.of) s ≡ Less

-- each of them comes before all that go on from this one by a step
abbrev pub AreBeforeNext : List Visit → List Step → Type 0
AreBeforeNext level s = (x : Step) → AreBefore level (s ++ x ∷ [])

-- each state of the level can be read
abbrev pub AreOf : (List ℕ → Type 0) → List Visit → Type 0
AreOf IsOf level = (x : Visit) → IsAmong x level → IsOf x.row

-- where each state of a level can be read, and one more, each state of another level can
abbrev pub TakesIn : (List ℕ → Type 0) → List Visit → List ℕ → List Visit → Type 0
TakesIn IsOf old row after = AreOf IsOf old → IsOf row → AreOf IsOf after

-- a state of the level agrees with a history, and its schedule does not come after this one
abbrev pub IsCovered : (List ℕ → Program → History → Type 0) → Program → List Visit → List Step → History → Type 0
IsCovered Agrees a level s h = (x : Visit) × IsAmong x level × Agrees x.row a h × IsUpTo (schedule_in x.of) s

-- what one level covers, another one covers
abbrev pub Keeps : (List ℕ → Program → History → Type 0) → Program → List Visit → List Visit → Type 0
Keeps Agrees a old new = (s : List Step) (h : History) → IsCovered Agrees a old s h → IsCovered Agrees a new s h
