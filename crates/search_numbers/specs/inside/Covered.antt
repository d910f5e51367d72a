-- The columns of places that cells lie in or are seen from.
use Rattle.std.specs.List.{AllByRecursion}
use Rattle.std.specs.Prelude.{◌≡◌, ◌<◌, ℕ, true, List, Option, Some, None, length}
use Rattle.search_numbers.specs.Local.{sees}
use Rattle.search_numbers.specs.Stored.{Follows, covers}
use Rattle.search_numbers.specs.declared.store.Store.{Store}
use Rattle.world_model.specs.Cells.{Cell, Alive}
use Rattle.world_model.specs.Names.{IsAmong, Pid}
use Rattle.world_records.specs.Places.{place_of}
use Rattle.world_records.specs.declared.place.Place.{Place}

-- columns that there are
abbrev pub AreWithin : Store → List ℕ → Type 0
AreWithin store columns = AllByRecursion (λ c. c < length store.places.items) columns

-- a store follows another one with the same parts, and columns cover all places that others covered
pub record CoversMore (old_store : Store) (old : List ℕ) (new_store : Store) (new : List ℕ) : Type 0 where
  pub follows : Follows new_store old_store
  pub parts : new_store.parts ≡ old_store.parts
  pub covered : (q : Place) → covers old_store.places.items old q ≡ true → covers new_store.places.items new q ≡ true
  pub within : AreWithin old_store old → AreWithin new_store new

-- the process of which a cell says whether it lives, if it does
abbrev pub life_in : Cell → Option Pid
life_in (Alive p) = Some p
life_in c = None

-- all places from which a cell is seen are covered
abbrev pub CoversSeen : Store → List ℕ → Cell → Type 0
CoversSeen store columns c = (q : Place) → sees q c ≡ true → covers store.places.items columns q ≡ true

abbrev pub CoversViews : Store → List ℕ → List Cell → Type 0
CoversViews store columns cs = (c : Cell) → IsAmong c cs → CoversSeen store columns c

-- the places in which cells lie are covered
abbrev pub CoversPlaces : Store → List ℕ → List Cell → Type 0
CoversPlaces store columns cs = (c : Cell) → IsAmong c cs → covers store.places.items columns (place_of c) ≡ true
