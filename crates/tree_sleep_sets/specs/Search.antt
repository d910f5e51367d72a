-- The tree that a search makes, and a test of any tree.
use Rattle.std.specs.Prelude.{◌≡◌, ℕ, zero, suc, Bool, true, false, ◌&&◌, ◌||◌, not, List, [], ◌∷◌, ◌++◌, map, filter, Option, Some, None}
use Rattle.tree_sleep_sets.specs.System.{System, Takes}
use Rattle.tree_sleep_sets.specs.Tree.{Plan, asleep, Includes}

-- the enabled steps, and a test of two steps
pub record Choice (S : System) : Type 0 where
  pub enabled : S.World → List S.Step
  pub is_same : S.Step → S.Step → Bool

-- each step that can be taken is among the enabled ones, and the test distinguishes steps
pub record ChoiceLaws (S : System) (C : Choice S) : Type 0 where
  pub has_enabled : (w : S.World) (a : S.Step) → S.IsReal w → Takes S w a → Includes (C.enabled w) a
  pub same_step : (a b : S.Step) → C.is_same a b ≡ true → a ≡ b

-- whether a step is in a list
abbrev pub is_among : {X : Type 0} → (X → X → Bool) → List X → X → Bool
is_among is_same [] a = false
is_among is_same (b ∷ bs) a = is_same b a || is_among is_same bs a

-- whether each element passes
abbrev pub is_each : {X : Type 0} → (X → Bool) → List X → Bool
is_each test [] = true
is_each test (x ∷ xs) = test x && is_each test xs

module _ (S : System) (C : Choice S) where
  -- the enabled steps that do not sleep, in their order
  abbrev pub awake : S.World → List S.Step → List S.Step
  awake w slept = filter (λ a. not (is_among C.is_same slept a)) (C.enabled w)

  -- the search takes just these at each node
  abbrev pub search : Plan S
  search = record { Place = Unit {0}; line = λ x w slept. map (λ a. (a, tt)) (awake w slept) }

module _ (S : System) (C : Choice S) (P : Plan S) where
  -- a test of the world after a step, if there is one
  abbrev pub is_after : (S.World → Bool) → Option (S.Event × S.World) → Bool
  is_after test None = true
  is_after test (Some o) = test o.1

  -- whether each child of a line, from some element on, passes
  abbrev pub is_each_child : (P.Place → S.World → List S.Step → Bool) → S.World → List S.Step → List (S.Step × P.Place) → List (S.Step × P.Place) → Bool
  is_each_child test w slept before [] = true
  is_each_child test w slept before (c ∷ cs) =
      is_after (λ v. test c.1 v (asleep S P w slept before c.0)) (S.next w c.0) && is_each_child test w slept (before ++ c ∷ []) cs

  -- whether above the depth each enabled step is taken or sleeps
  abbrev pub is_whole : ℕ → P.Place → S.World → List S.Step → Bool
  is_whole zero x w slept = true
  is_whole (suc n) x w slept =
      is_each (λ a. is_among C.is_same (slept ++ map (λ c. c.0) (P.line x w slept)) a) (C.enabled w) && is_each_child (is_whole n) w slept [] (P.line x w slept)
