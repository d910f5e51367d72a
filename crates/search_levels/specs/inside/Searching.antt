-- What levels find.
use Rattle.std.specs.Prelude.{◌≡◌, ◌+◌, ℕ, zero, suc, false, List, [], Some, length}
use Rattle.search_levels.specs.Arrivals.{has_step}
use Rattle.search_levels.specs.Searched.{IsLonger, IsSearched}
use Rattle.search_levels.specs.inside.Levels.{AreAt, ComeInOrder, IsCovered}
use Rattle.search_levels.specs.declared.search.Searched.{Searched}
use Rattle.search_levels.specs.inside.Visits.{Visit}
use Rattle.term_core.specs.declared.step.Step.{Step}
use Rattle.tree_coverage.specs.Findings.{Findings, findings_among}
use Rattle.tree_schedules.specs.Deliveries.{DeliversBy}
use Rattle.tree_schedules.specs.StandIns.{StandForAll}
use Rattle.tree_schedules.specs.declared.delivery.Delivery.{Delivery}
use Rattle.world_model.specs.Events.{History}
use Rattle.world_model.specs.Names.{IsAmong}
use Rattle.world_model.specs.Requests.{Program}
use Rattle.world_model.specs.Run.{run}
use Rattle.world_model.specs.Shown.{Flags}

-- the schedules of the level come in order, each history of so many steps is covered whose schedule delivers signals so, and what schedules that stand for all such ones of at most so many steps show is found
pub record IsLevel (d : Delivery) (Agrees : List ℕ → Program → History → Type 0) (flags : Flags) (a : Program) (k : ℕ) (level : List Visit) (findings : Findings) : Type 0 where
  pub at : AreAt d Agrees a k level
  pub in_order : ComeInOrder level
  pub covers : (s : List Step) (h : History) → length s ≡ k → DeliversBy d a s → run a s ≡ Some h → IsCovered Agrees a level s h
  pub visited : List (List Step)
  pub stand : StandForAll d a k visited
  pub found : findings ≡ findings_among flags a visited

-- the level of the schedule without steps, where this was kept of the world before anything happened
abbrev pub Begins : (List ℕ → Program → History → Type 0) → List ℕ → List Visit → Type 0
Begins Agrees first level = (d : Delivery) (a : Program) → Agrees first a [] → AreAt d Agrees a 0 level × ComeInOrder level × IsCovered Agrees a level [] []

-- a level is followed by the next one
abbrev pub GoesOn : Delivery → (List ℕ → Program → History → Type 0) → Flags → List Visit → List Visit → Findings → Findings → Type 0
GoesOn d Agrees flags level next before after = (a : Program) (k : ℕ) → IsLevel d Agrees flags a k level before → IsLevel d Agrees flags a (k + 1) next after

-- no step is enabled after any history that a state of the level agrees with
abbrev pub IsLast : (List ℕ → Program → History → Type 0) → List Visit → Type 0
IsLast Agrees level = (a : Program) (x : Visit) → IsAmong x level → (h : History) → Agrees x.row a h → has_step a h ≡ false

-- a step is enabled after a history of a state of the level: however signals are delivered, some step may be taken
abbrev pub GoesFurther : (List ℕ → Program → History → Type 0) → List Visit → Type 0
GoesFurther Agrees level = (d : Delivery) (a : Program) (k : ℕ) → AreAt d Agrees a k level → IsLonger d a k

-- at how many states of the level a step is enabled: at none, or else some schedule is longer, however signals are delivered
abbrev pub TellsOpen : (List ℕ → Program → History → Type 0) → List Visit → ℕ → Type 0
TellsOpen Agrees level zero = IsLast Agrees level
TellsOpen Agrees level (suc n) = GoesFurther Agrees level

-- where this is the last level, and this is found with it, the search has this result
abbrev pub ComesTo : Delivery → (List ℕ → Program → History → Type 0) → Flags → (depth limit : ℕ) → List Visit → Findings → Searched → Type 0
ComesTo d Agrees flags depth limit level findings searched = (a : Program) → IsLevel d Agrees flags a depth level findings → IsSearched flags d a depth limit searched
