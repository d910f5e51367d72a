-- Steps that are remembered.
use Rattle.std.specs.List.{AllByRecursion}
use Rattle.std.specs.Global.{Global}
use Rattle.std.specs.Prelude.{◌≡◌, ◌∷◌, [], ◌≤◌, ◌<◌, ℕ, true, List, Option, Some, None, Vec, length, map}
use Rattle.core_tree.specs.Syntax.{ModuleTree}
use Rattle.search_numbers.specs.Rows.{fits, written}
use Rattle.search_numbers.specs.Stored.{AreOf, BeginsAt, Follows}
use Rattle.search_numbers.specs.declared.remembered.Remembered.{Remembered}
use Rattle.search_numbers.specs.declared.store.Store.{Store}
use Rattle.world_identities.specs.Identities.{identity_in}
use Rattle.world_identities.specs.declared.identity.Identity.{Identity}
use Rattle.world_model.specs.Asking.{program_of}
use Rattle.world_model.specs.Events.{Event, History}
use Rattle.world_model.specs.Run.{next_event}
use Rattle.world_model.specs.Shown as told
use Rattle.world_model.specs.Shown.{shown_last}

-- a step that is enabled after a history leaves the world of these numbers, and its event shows this
pub record Happens (store : Store) (left : ℕ → ℕ) (m : ModuleTree) (h : History) (r : Remembered) (shown : List Identity) : Type 0 where
  pub event : Event
  pub is_next : next_event (program_of m) h r.step ≡ Some event
  pub are : AreOf store left m (event ∷ h)
  pub shows : map identity_in shown ≡ shown_last (event ∷ h)

-- what is remembered of a step is so after a history that leaves the world of these numbers
abbrev pub IsSo : Store → (ℕ → ℕ) → ModuleTree → History → Remembered → Option (List Identity) → Type 0
IsSo store numbers m h r None = next_event (program_of m) h r.step ≡ None
IsSo store numbers m h r (Some shown) = Happens store (written r.touches.items numbers) m h r shown

abbrev pub shown_in : Option (Vec Identity Global) → Option (List Identity)
shown_in None = None
shown_in (Some shown) = Some shown.items

-- it begins at the place of its column, and is so in each world that has its numbers, by whatever store follows
pub record IsRight (store : Store) (r : Remembered) : Type 0 where
  pub is_so : (later : Store) (numbers : ℕ → ℕ) (m : ModuleTree) (h : History) → Follows later store → fits r.touches.items numbers ≡ true → AreOf later numbers m h → IsSo later numbers m h r (shown_in r.shown)
  pub begins : BeginsAt store.places.items r.column r.step
  pub kept : AllByRecursion (λ t. (t.after ≤ length store.parts.items) × (t.column < length store.places.items)) r.touches.items

abbrev pub identities_in : Option (List Identity) → List told.Identity
identities_in None = []
identities_in (Some shown) = map identity_in shown
