-- What becomes of a level and of what is found where a state is expanded.
use Rattle.std.specs.Prelude.{◌≡◌, ◌+◌, ℕ, List, [], ◌∷◌, ◌++◌, Some, length, map}
use Rattle.std.specs.declared.cmp.Ordering.TheVariants.{Less}
use Rattle.search_levels.specs.Arrivals.{Arrived, IsArrival}
use Rattle.search_levels.specs.inside.Levels.{AreAt, AreBefore, AreBeforeNext, ComeInOrder, IsCovered, Keeps}
use Rattle.search_levels.specs.inside.Paths.{schedule_in}
use Rattle.search_levels.specs.inside.Visits.{Visit}
use Rattle.term_core.specs.StepOrder.{order_of_schedules}
use Rattle.term_core.specs.declared.step.Step.{Step}
use Rattle.tree_coverage.specs.Findings.{Findings, findings_among}
use Rattle.tree_schedules.specs.Deliveries.{DeliversBy, steps_by}
use Rattle.tree_schedules.specs.StandIns.{AreRuns, IsUpTo}
use Rattle.tree_schedules.specs.declared.delivery.Delivery.{Delivery}
use Rattle.world_model.specs.Events.{Event, History}
use Rattle.world_model.specs.Names.{IsAmong}
use Rattle.world_model.specs.Requests.{Program}
use Rattle.world_model.specs.Run.{next_event, run}
use Rattle.world_model.specs.Shown.{Flags, shown}

-- a step that may be taken after a history by this delivery of signals, and what is after it
abbrev pub MayArrive : Delivery → (List ℕ → Program → History → Type 0) → Program → History → Arrived → Type 0
MayArrive d Agrees a h r = IsArrival Agrees a h r × IsAmong r.of.step (steps_by d a h)

-- a step from a state to which this schedule leads: what is after it is covered, the level comes in order up to the schedule that goes on by it, and what is shown there is found
pub record ArrivesAt (d : Delivery) (Agrees : List ℕ → Program → History → Type 0) (flags : Flags) (a : Program) (k : ℕ) (visited : List (List Step)) (schedule : List Step) (r : Arrived) (old new : List Visit) (after : Findings) : Type 0 where
  pub at : AreAt d Agrees a (k + 1) new
  pub in_order : ComeInOrder new
  pub before : (s : List Step) → order_of_schedules (schedule ++ r.of.step ∷ []) s ≡ Less → AreBefore new s
  pub keeps : Keeps Agrees a old new
  pub covers : (s : List Step) (h : History) → Agrees r.row a h → IsUpTo (schedule ++ r.of.step ∷ []) s → IsCovered Agrees a new s h
  pub found : after ≡ findings_among flags a (visited ++ (schedule ++ r.of.step ∷ []) ∷ [])

abbrev pub Arrives : (List ℕ → Program → History → Type 0) → Flags → List Step → Arrived → List Visit → List Visit → Findings → Findings → Type 0
Arrives Agrees flags schedule r old new before after =
    (d : Delivery) (a : Program) (k : ℕ) (h : History) (visited : List (List Step)) → length schedule ≡ k → DeliversBy d a schedule → run a schedule ≡ Some h → MayArrive d Agrees a h r
    → AreAt d Agrees a (k + 1) old → ComeInOrder old → AreBefore old (schedule ++ r.of.step ∷ []) → before ≡ findings_among flags a visited
    → ArrivesAt d Agrees flags a k visited schedule r old new after

-- these schedules go on from one by each of these steps
abbrev pub on_by : List Step → List Step → List (List Step)
on_by schedule steps = map (λ x. schedule ++ x ∷ []) steps

-- all steps that may be taken from a state: what is after them is covered, whatever the state agrees with, the level comes in order up to the schedules that go on by them, and what is shown there is found
pub record ExpandsAt (d : Delivery) (Agrees : List ℕ → Program → History → Type 0) (flags : Flags) (a : Program) (k : ℕ) (h : History) (visited : List (List Step)) (from : Visit) (old new : List Visit) (after : Findings) : Type 0 where
  pub at : AreAt d Agrees a (k + 1) new
  pub in_order : ComeInOrder new
  pub before : (s : List Step) → order_of_schedules (schedule_in from.of) s ≡ Less → AreBeforeNext new s
  pub keeps : Keeps Agrees a old new
  pub covers : (s : List Step) (g : History) → Agrees from.row a g → (x : Step) (e : Event) → IsAmong x (steps_by d a g) → next_event a g x ≡ Some e → IsUpTo (schedule_in from.of ++ x ∷ []) s → IsCovered Agrees a new s (e ∷ g)
  pub same : (g : History) → Agrees from.row a g → (x : Step) (e : Event) → IsAmong x (steps_by d a g) → next_event a g x ≡ Some e → IsAmong x (steps_by d a h) × (f : Event) × (next_event a h x ≡ Some f) × (shown a (f ∷ h) ≡ shown a (e ∷ g))
  pub found : after ≡ findings_among flags a (visited ++ on_by (schedule_in from.of) (steps_by d a h))

abbrev pub Expands : Delivery → (List ℕ → Program → History → Type 0) → Flags → Visit → List Visit → List Visit → Findings → Findings → Type 0
Expands d Agrees flags from old new before after =
    (a : Program) (k : ℕ) (h : History) (visited : List (List Step)) → length (schedule_in from.of) ≡ k → DeliversBy d a (schedule_in from.of) → run a (schedule_in from.of) ≡ Some h → Agrees from.row a h
    → AreAt d Agrees a (k + 1) old → ComeInOrder old → AreBeforeNext old (schedule_in from.of) → before ≡ findings_among flags a visited
    → ExpandsAt d Agrees flags a k h visited from old new after

-- ---- also where it stops before its end

-- what some schedules of at most so many steps show that deliver signals so, is found with what was found before
abbrev pub NotesSome : Flags → Delivery → Program → ℕ → Findings → Findings → Type 0
NotesSome flags d a n before after =
    (visited : List (List Step)) → before ≡ findings_among flags a visited → (more : List (List Step)) × AreRuns d a n more × (after ≡ findings_among flags a (visited ++ more))

-- after a step from a state to which this schedule leads
abbrev pub NotesArrival : (List ℕ → Program → History → Type 0) → Flags → List Step → Arrived → Findings → Findings → Type 0
NotesArrival Agrees flags schedule r before after =
    (d : Delivery) (a : Program) (k : ℕ) (h : History) → length schedule ≡ k → DeliversBy d a schedule → run a schedule ≡ Some h → MayArrive d Agrees a h r → NotesSome flags d a (k + 1) before after

-- after steps from a state
abbrev pub NotesArrivals : Delivery → (List ℕ → Program → History → Type 0) → Flags → Visit → Findings → Findings → Type 0
NotesArrivals d Agrees flags from before after =
    (a : Program) (k : ℕ) (h : History) → length (schedule_in from.of) ≡ k → DeliversBy d a (schedule_in from.of) → run a (schedule_in from.of) ≡ Some h → Agrees from.row a h → NotesSome flags d a (k + 1) before after

-- after steps from the states of a level
abbrev pub NotesLevel : Delivery → (List ℕ → Program → History → Type 0) → Flags → List Visit → Findings → Findings → Type 0
NotesLevel d Agrees flags level before after = (a : Program) (k : ℕ) → AreAt d Agrees a k level → NotesSome flags d a (k + 1) before after

-- ---- several states

-- the states so far are expanded: what is after all steps that may be taken from them is covered, the level comes in order up to the schedules that go on from what comes later, and what is shown there is found
pub record GoesOnSoFar (d : Delivery) (Agrees : List ℕ → Program → History → Type 0) (flags : Flags) (a : Program) (k : ℕ) (visited : List (List Step)) (done : List Visit) (next : List Visit) (findings : Findings) : Type 0 where
  pub at : AreAt d Agrees a (k + 1) next
  pub in_order : ComeInOrder next
  pub before : (s : List Step) → AreBefore done s → AreBeforeNext next s
  pub covers : (y : Visit) → IsAmong y done → (s : List Step) (g : History) → Agrees y.row a g → (x : Step) (e : Event) → IsAmong x (steps_by d a g) → next_event a g x ≡ Some e → IsUpTo (schedule_in y.of ++ x ∷ []) s → IsCovered Agrees a next s (e ∷ g)
  pub more : List (List Step)
  pub found : findings ≡ findings_among flags a (visited ++ more)
  pub runs : (s : List Step) → IsAmong s more → (length s ≡ k + 1) × DeliversBy d a s × (h : History) × (run a s ≡ Some h)
  pub shows : (y : Visit) → IsAmong y done → (g : History) → Agrees y.row a g → (x : Step) (e : Event) → IsAmong x (steps_by d a g) → next_event a g x ≡ Some e → (h : History) × IsAmong (schedule_in y.of ++ x ∷ []) more × (run a (schedule_in y.of ++ x ∷ []) ≡ Some h) × (shown a h ≡ shown a (e ∷ g))

-- so it is with the level that is made and what is found, where the states come in order
abbrev pub LevelSoFar : Delivery → (List ℕ → Program → History → Type 0) → Flags → Findings → List Visit → List Visit → Findings → Type 0
LevelSoFar d Agrees flags begun done next findings = (a : Program) (k : ℕ) (visited : List (List Step)) → AreAt d Agrees a k done → ComeInOrder done → begun ≡ findings_among flags a visited → GoesOnSoFar d Agrees flags a k visited done next findings

-- where some more states are expanded
abbrev pub GoesFrom : Delivery → (List ℕ → Program → History → Type 0) → Flags → (done more : List Visit) → (old new : List Visit) → (before after : Findings) → Type 0
GoesFrom d Agrees flags done more old new before after = (begun : Findings) → LevelSoFar d Agrees flags begun done old before → LevelSoFar d Agrees flags begun more new after

-- after some of these steps from a state to which this schedule leads
abbrev pub NotesAll : (List ℕ → Program → History → Type 0) → Flags → List Step → List Arrived → Findings → Findings → Type 0
NotesAll Agrees flags schedule rs before after =
    (d : Delivery) (a : Program) (k : ℕ) (h : History) → length schedule ≡ k → DeliversBy d a schedule → run a schedule ≡ Some h → ((r : Arrived) → IsAmong r rs → MayArrive d Agrees a h r) → NotesSome flags d a (k + 1) before after
