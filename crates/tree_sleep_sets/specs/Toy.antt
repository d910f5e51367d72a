-- A toy: two players take stones from a bag.
use Rattle.std.specs.Prelude.{◌≡◌, ℕ, suc, Bool, true, false, List, [], ◌∷◌, Option, Some, None, length, nat_lt, not, ◌&&◌}
use Rattle.tree_sleep_sets.specs.System.{System}
use Rattle.tree_sleep_sets.specs.Shown.{Signs}
use Rattle.tree_sleep_sets.specs.Search.{Choice}

-- a player takes a stone, if there is one left
abbrev pub taken : Bool → Bool → List Bool → Option (Bool × List Bool)
taken true player takes = Some (player, player ∷ takes)
taken false player takes = None

abbrev pub other : Bool → Bool → Bool
other true b = not b
other false b = b

-- a world is who took so far; two players are independent while two stones are left
abbrev pub stones : ℕ → System
stones bag = record {
  World = List Bool;
  Step = Bool;
  Event = Bool;
  next = λ takes player. taken (nat_lt (length takes) bag) player takes;
  independent = λ takes a b. other a b && nat_lt (suc (length takes)) bag;
  Same = λ a b. length a ≡ length b;
  IsReal = λ takes. Unit {0};
}

abbrev pub both_players : Bool → List Bool
both_players true = true ∷ false ∷ []
both_players false = []

-- both players, while a stone is left
abbrev pub players : (bag : ℕ) → Choice (stones bag)
players bag = record { enabled = λ takes. both_players (nat_lt (length takes) bag); is_same = λ a b. not (other a b) }

-- what is shown: that a player took, and that the bag is empty
pub data Sign : Type 0 where
  Took : Bool → Sign
  EmptyBag : Sign

abbrev pub is_took : Bool → Sign → Type 0
is_took player (Took other) = player ≡ other
is_took player EmptyBag = ⊥

abbrev pub is_empty : ℕ → List Bool → Sign → Type 0
is_empty bag takes (Took player) = ⊥
is_empty bag takes EmptyBag = length takes ≡ bag

abbrev pub signs : (bag : ℕ) → Signs (stones bag)
signs bag = record { Identity = Sign; event_shows = is_took; state_shows = is_empty bag }
