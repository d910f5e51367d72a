-- The nodes of a tree, one after another.
use Rattle.std.specs.Prelude.{ℕ, zero, suc, List, [], ◌∷◌, ◌++◌, map, Option, Some, None}
use Rattle.tree_sleep_sets.specs.System.{System}
use Rattle.tree_sleep_sets.specs.Tree.{Plan, asleep}

module _ (S : System) (P : Plan S) where
  -- the paths below a step, if it can be taken
  abbrev pub paths_after : S.Step → (S.World → List (List S.Step)) → Option (S.Event × S.World) → List (List S.Step)
  paths_after a below None = []
  paths_after a below (Some o) = map (◌∷◌ a) (below o.1)

  -- the paths below the steps of a line, from some step on
  abbrev pub paths_along : (P.Place → S.World → List S.Step → List (List S.Step)) → S.World → List S.Step → List (S.Step × P.Place) → List (S.Step × P.Place) → List (List S.Step)
  paths_along below w slept before [] = []
  paths_along below w slept before (c ∷ cs) =
      paths_after c.0 (λ v. below c.1 v (asleep S P w slept before c.0)) (S.next w c.0) ++ paths_along below w slept (before ++ c ∷ []) cs

  -- the paths of the nodes at most so many steps below a place, each before those below it
  abbrev pub paths : ℕ → P.Place → S.World → List S.Step → List (List S.Step)
  paths zero x w slept = [] ∷ []
  paths (suc n) x w slept = [] ∷ paths_along (paths n) w slept [] (P.line x w slept)
