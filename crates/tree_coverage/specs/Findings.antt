-- What the nodes of a tree show: each error and each refusal once, with the least of the schedules that show it.
use Rattle.std.specs.List.{filter}
use Rattle.std.specs.Ordering.{is_gt}
use Rattle.std.specs.Prelude.{◌≡◌, ◌↔◌, ℕ, Bool, true, false, List, [], ◌∷◌, if◌then◌else◌}
use Rattle.std.specs.declared.cmp.Ordering.{Ordering}
use Rattle.std.specs.declared.cmp.Ordering.TheVariants.{Less, Equal, Greater}
use Rattle.term_core.specs.StepOrder.{order_of_schedules}
use Rattle.term_core.specs.declared.step.Step.{Step}
use Rattle.world_model.specs.Names.{IsAmong}
use Rattle.world_model.specs.Requests.{Program}
use Rattle.world_model.specs.Run.{run}
use Rattle.world_model.specs.Shown.{Identity, Flags, is_error, is_refusal}
use Rattle.world_identities.specs.Order.{order_of_identities}
use Rattle.tree_coverage.specs.Shown.{RunShows, IsShown, shown_after}
use Rattle.tree_coverage.specs.Trees.{nodes}

-- an identity, and a schedule that shows it
pub record Finding : Type 0 where
  pub identity : Identity
  pub schedule : List Step

-- errors and refusals, each in the order of identities
pub record Findings : Type 0 where
  pub errors : List Finding
  pub refusals : List Finding

abbrev pub lesser : List Step → List Step → List Step
lesser s t = if is_gt (order_of_schedules s t) then t else s

-- a finding before others, in order: an identity that is already there keeps the lesser schedule
abbrev pub put_before : Ordering → Finding → Finding → List Finding → List Finding → List Finding
put_before Less f g gs rest = f ∷ g ∷ gs
put_before Equal f g gs rest = record { identity = g.identity; schedule = lesser f.schedule g.schedule } ∷ gs
put_before Greater f g gs rest = g ∷ rest

abbrev pub with_finding : Finding → List Finding → List Finding
with_finding f [] = f ∷ []
with_finding f (g ∷ gs) = put_before (order_of_identities f.identity g.identity) f g gs (with_finding f gs)

-- with all that one schedule shows
abbrev pub with_all : List Step → List Identity → List Finding → List Finding
with_all s [] fs = fs
with_all s (i ∷ is) fs = with_finding (record { identity = i; schedule = s }) (with_all s is fs)

-- what schedules show, of the identities that pass a test
abbrev pub found : (Identity → Bool) → Program → List (List Step) → List Finding
found test a [] = []
found test a (s ∷ schedules) = with_all s (filter test (shown_after a (run a s))) (found test a schedules)

-- the errors under the flags, and the refusals
abbrev pub findings_among : Flags → Program → List (List Step) → Findings
findings_among flags a schedules = record { errors = found (is_error flags) a schedules; refusals = found is_refusal a schedules }

-- those of the tree
abbrev pub findings_of : Flags → Program → ℕ → Findings
findings_of flags a n = findings_among flags a (nodes a n)

-- ---- what holds of them

-- an identity is in the list
abbrev pub IsFound : Identity → List Finding → Type 0
IsFound i fs = (f : Finding) × IsAmong f fs × (f.identity ≡ i)

-- findings in order, each identity once: each comes before all that follow it
abbrev pub LeadsAll : Finding → List Finding → Type 0
LeadsAll f [] = Unit {0}
LeadsAll f (g ∷ gs) = (order_of_identities f.identity g.identity ≡ Less) × LeadsAll f gs

abbrev pub AreSorted : List Finding → Type 0
AreSorted [] = Unit {0}
AreSorted (f ∷ fs) = LeadsAll f fs × AreSorted fs

abbrev pub FindingsAreSorted : Type 0
FindingsAreSorted = (flags : Flags) (a : Program) (n : ℕ) → AreSorted (findings_of flags a n).errors × AreSorted (findings_of flags a n).refusals

-- an error is found exactly where some schedule of at most so many steps shows it
abbrev pub ErrorsAreExact : Type 0
ErrorsAreExact = (flags : Flags) (a : Program) (n : ℕ) (i : Identity) → IsFound i (findings_of flags a n).errors ↔ ((is_error flags i ≡ true) × IsShown a n i)

-- and a refusal
abbrev pub RefusalsAreExact : Type 0
RefusalsAreExact = (flags : Flags) (a : Program) (n : ℕ) (i : Identity) → IsFound i (findings_of flags a n).refusals ↔ ((is_refusal i ≡ true) × IsShown a n i)

-- the schedule is one of these and shows the identity, and none of these that show it is less
pub record IsLeast (a : Program) (schedules : List (List Step)) (f : Finding) : Type 0 where
  pub is_among : IsAmong f.schedule schedules
  pub shows : RunShows a f.schedule f.identity
  pub is_least : (s : List Step) → IsAmong s schedules → RunShows a s f.identity → is_gt (order_of_schedules f.schedule s) ≡ false

abbrev pub ErrorsAreOfNodes : Type 0
ErrorsAreOfNodes = (flags : Flags) (a : Program) (n : ℕ) (f : Finding) → IsAmong f (findings_of flags a n).errors → IsLeast a (nodes a n) f

abbrev pub RefusalsAreOfNodes : Type 0
RefusalsAreOfNodes = (flags : Flags) (a : Program) (n : ℕ) (f : Finding) → IsAmong f (findings_of flags a n).refusals → IsLeast a (nodes a n) f
