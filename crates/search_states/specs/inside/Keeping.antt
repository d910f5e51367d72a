-- What is kept of a world, where it begins, and the steps from it.
use Rattle.std.specs.List.{AllByRecursion}
use Rattle.std.specs.Prelude.{◌≡◌, ℕ, List, [], ◌∷◌, ◌++◌}
use Rattle.core_tree.specs.Syntax.{ModuleTree}
use Rattle.search_expansion.specs.inside.Nodes.{AddsDeadlock}
use Rattle.search_levels.specs.Arrivals.{AreArrivals, Arrived, IsArrival, of_module}
use Rattle.search_numbers.specs.Knowing.{AreRight, InWorlds, IsEnabledAt}
use Rattle.search_numbers.specs.Rows.{numbers_in}
use Rattle.search_numbers.specs.Stored.{AreOf, Follows, IsWorldOf}
use Rattle.search_numbers.specs.declared.known.Known.{Known}
use Rattle.term_core.specs.declared.step.Step.{Step}
use Rattle.tree_schedules.specs.declared.delivery.Delivery.{Delivery}
use Rattle.world_identities.specs.declared.identity.Identity.{Identity}
use Rattle.world_model.specs.Asking.{program_of}
use Rattle.world_model.specs.Events.{History}

-- a row agrees with each history that leaves the world of its numbers
abbrev pub IsKept : Known → List ℕ → ModuleTree → History → Type 0
IsKept known row m h = AreOf known.store (numbers_in row) m h

-- what is remembered is right, and a history leaves the world of these numbers
abbrev pub CanRead : Known → (ℕ → ℕ) → Type 0
CanRead known numbers = AreRight known × IsWorldOf known.store numbers

-- the rows after steps can be read
abbrev pub AreRead : Known → List Arrived → Type 0
AreRead known rs = AllByRecursion (λ r. CanRead known (numbers_in r.row)) rs

-- what is known later
abbrev pub Comes : Known → Known → Type 0
Comes later earlier = Follows later.store earlier.store

-- the deadlock that is shown in a world, if one is, is put after others, and then what is unread
abbrev pub AddsDeadlockIn : Known → (ℕ → ℕ) → List Identity → List Identity → Type 0
AddsDeadlockIn known numbers old new = InWorlds known numbers (λ m h. AddsDeadlock (program_of m) h old new)

-- what is after the step that is remembered at a place, in each world of these numbers
abbrev pub IsArrivalOf : Known → Known → (ℕ → ℕ) → ℕ → Arrived → Type 0
IsArrivalOf before known numbers at r = (step : Step) → IsEnabledAt before numbers step at
    → (r.of.step ≡ step) × ((later : Known) (m : ModuleTree) (h : History) → Comes later known → AreOf later.store numbers m h → IsArrival (of_module (IsKept later) m) (program_of m) h r)

-- that is put after others, and can be read
pub record PutsArrival (before known : Known) (numbers : ℕ → ℕ) (at : ℕ) (old new : List Arrived) : Type 0 where
  pub one : Arrived
  pub put : new ≡ old ++ one ∷ []
  pub is : IsArrivalOf before known numbers at one
  pub read : CanRead known (numbers_in one.row)

-- that alone is put
abbrev pub PutsAlone : Known → Known → (ℕ → ℕ) → ℕ → List Arrived → Type 0
PutsAlone before known numbers at new = PutsArrival before known numbers at [] new

-- the steps that may be taken by this delivery of signals, each with what is shown and kept after it, in each world of these numbers
abbrev pub AreArrivalsIn : Delivery → Known → (ℕ → ℕ) → List Arrived → Type 0
AreArrivalsIn d known numbers rs = (later : Known) (m : ModuleTree) (h : History) → Comes later known → AreOf later.store numbers m h → AreArrivals d (of_module (IsKept later) m) (program_of m) h rs
