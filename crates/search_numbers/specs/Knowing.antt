-- What is known of all worlds of a search.
use Rattle.std.specs.List.{AllByRecursion, filter}
use Rattle.std.specs.Prelude.{◌≡◌, ◌++◌, ℕ, Bool, true, List, [], ◌∷◌, Option, Some, None, is_some, map, slice_get}
use Rattle.core_tree.specs.Syntax.{ModuleTree}
use Rattle.search_levels.specs.Arrivals.{has_step}
use Rattle.search_levels.specs.declared.arrival.Arrival.{Arrival}
use Rattle.search_numbers.specs.Remembering.{IsRight}
use Rattle.search_numbers.specs.Rows.{fits}
use Rattle.search_numbers.specs.Stored.{AreOf, Follows}
use Rattle.search_numbers.specs.declared.known.Known.{Known}
use Rattle.search_numbers.specs.declared.remembered.Remembered.{Remembered}
use Rattle.search_numbers.specs.declared.store.Store.{Store}
use Rattle.term_core.specs.declared.step.Step.{Step}
use Rattle.tree_schedules.specs.Deliveries.{is_at_once}
use Rattle.world_identities.specs.Identities.{identity_in}
use Rattle.world_model.specs.Asking.{program_of}
use Rattle.world_model.specs.Events.{Event, History}
use Rattle.world_model.specs.Run.{enabled_steps, next_event}
use Rattle.world_model.specs.Shown.{shown_last}

-- all that is remembered is right
abbrev pub AreRight : Known → Type 0
AreRight known = AllByRecursion (IsRight known.store) known.remembered.items

-- all that was known is known, at the same places, and is right where it was
pub record KnowsMore (old new : Known) : Type 0 where
  pub follows : Follows new.store old.store
  pub right : AreRight old → AreRight new
  pub more : List Remembered
  pub remembered : new.remembered.items ≡ old.remembered.items ++ more

-- a step is remembered at a place, with numbers that a world has
pub record IsAt (known : Known) (numbers : ℕ → ℕ) (step : Step) (at : ℕ) : Type 0 where
  pub remembered : Remembered
  pub there : slice_get known.remembered.items at ≡ Some remembered
  pub is_of : remembered.step ≡ step
  pub matches : fits remembered.touches.items numbers ≡ true

-- and as one that is enabled
pub record IsEnabledAt (known : Known) (numbers : ℕ → ℕ) (step : Step) (at : ℕ) : Type 0 where
  pub remembered : Remembered
  pub there : slice_get known.remembered.items at ≡ Some remembered
  pub is_of : remembered.step ≡ step
  pub matches : fits remembered.touches.items numbers ≡ true
  pub enabled : is_some remembered.shown ≡ true

-- this is so in each world of these numbers, by whatever store follows
abbrev pub InWorlds : Known → (ℕ → ℕ) → (ModuleTree → History → Type 0) → Type 0
InWorlds known numbers IsSo = (later : Store) (m : ModuleTree) (h : History) → Follows later known.store → AreOf later numbers m h → IsSo m h

-- these steps are remembered at these places as enabled ones
abbrev pub AreAt : Known → (ℕ → ℕ) → List Step → List ℕ → Type 0
AreAt known numbers [] [] = Unit {0}
AreAt known numbers (step ∷ steps) (at ∷ places) = IsEnabledAt known numbers step at × AreAt known numbers steps places
AreAt known numbers steps places = ⊥

-- at these places are all steps that are enabled
abbrev pub AreEnabled : Known → (ℕ → ℕ) → List ℕ → Type 0
AreEnabled known numbers places = InWorlds known numbers (λ m h. AreAt known numbers (enabled_steps (program_of m) h) places)

-- at this place is the first of these steps as an enabled one, or there is none
abbrev pub FirstIs : Known → (ℕ → ℕ) → List Step → Option ℕ → Type 0
FirstIs known numbers [] None = Unit {0}
FirstIs known numbers (step ∷ steps) (Some at) = IsEnabledAt known numbers step at
FirstIs known numbers steps at = ⊥

-- at this place is the first enabled delivery of a signal that arrives at once, or there is none
abbrev pub IsFirstAtOnce : Known → (ℕ → ℕ) → Option ℕ → Type 0
IsFirstAtOnce known numbers at = InWorlds known numbers (λ m h. FirstIs known numbers (filter (is_at_once h) (enabled_steps (program_of m) h)) at)

-- whether a step is enabled
abbrev pub GoesOn : Known → (ℕ → ℕ) → Bool → Type 0
GoesOn known numbers goes_on = InWorlds known numbers (λ m h. goes_on ≡ has_step (program_of m) h)

-- after a step that is enabled the world is that of these numbers, and its event shows this
pub record IsAfter (store : Store) (m : ModuleTree) (h : History) (step : Step) (left : ℕ → ℕ) (taken : Arrival) : Type 0 where
  pub event : Event
  pub is_next : next_event (program_of m) h step ≡ Some event
  pub are : AreOf store left m (event ∷ h)
  pub shown : map identity_in taken.shown.items ≡ shown_last (event ∷ h)

-- what a step does that is remembered at a place as enabled, in each world of the first numbers: it leaves that of the others
abbrev pub IsTaken : Known → (ℕ → ℕ) → ℕ → (ℕ → ℕ) → Arrival → Type 0
IsTaken known numbers at left taken = (step : Step) → IsEnabledAt known numbers step at
    → (taken.step ≡ step) × ((later : Store) (m : ModuleTree) (h : History) → Follows later known.store → AreOf later numbers m h → IsAfter later m h step left taken)

-- some step is remembered at a place as enabled
pub record IsThere (known : Known) (numbers : ℕ → ℕ) (at : ℕ) : Type 0 where
  pub step : Step
  pub enabled : IsEnabledAt known numbers step at
