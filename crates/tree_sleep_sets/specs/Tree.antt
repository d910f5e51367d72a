-- Trees of schedules with sleep sets.
use Rattle.std.specs.Prelude.{◌≡◌, ◌⊎◌, ℕ, zero, suc, List, [], ◌∷◌, ◌++◌, map, filter}
use Rattle.tree_sleep_sets.specs.System.{System, Takes}

-- x is an element of the list
abbrev pub Includes : {X : Type 0} → List X → X → Type 0
Includes [] x = ⊥
Includes (y ∷ ys) x = (y ≡ x) ⊎ Includes ys x

-- how a tree goes on at each of its places: the steps that are taken there, in their order, each with the place that it leads to
pub record Plan (S : System) : Type 1 where
  pub Place : Type 0
  pub line : Place → S.World → List S.Step → List (S.Step × Place)

module _ (S : System) (P : Plan S) where
  -- a step is taken at a place: the steps before it in the line, the place that it leads to, and what it does
  pub record Child (x : P.Place) (w : S.World) (slept : List S.Step) (a : S.Step) : Type 0 where
    pub before : List (S.Step × P.Place)
    pub place : P.Place
    pub after : List (S.Step × P.Place)
    pub is_in_line : P.line x w slept ≡ before ++ (a, place) ∷ after
    pub takes : Takes S w a

  -- the steps that sleep below a step: those that slept and those before it in the line, where they are independent of it
  abbrev pub asleep : S.World → List S.Step → List (S.Step × P.Place) → S.Step → List S.Step
  asleep w slept before a = filter (S.independent w a) (slept ++ map (λ c. c.0) before)

  -- the schedule leads to a node at most so many steps below a place
  abbrev pub IsPath : ℕ → P.Place → S.World → List S.Step → List S.Step → Type 0
  IsPath n x w slept [] = Unit {0}
  IsPath zero x w slept (a ∷ p) = ⊥
  IsPath (suc n) x w slept (a ∷ p) =
      (c : Child x w slept a) × IsPath n c.place c.takes.world (asleep w slept c.before a) p

  -- above the depth each enabled step is taken or sleeps
  abbrev pub IsWhole : ℕ → P.Place → S.World → List S.Step → Type 0
  IsWhole zero x w slept = Unit {0}
  IsWhole (suc n) x w slept =
      ((a : S.Step) → Takes S w a → Child x w slept a ⊎ Includes slept a) × ((a : S.Step) (c : Child x w slept a) → IsWhole n c.place c.takes.world (asleep w slept c.before a))
