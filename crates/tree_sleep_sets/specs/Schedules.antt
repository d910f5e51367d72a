-- Schedules that run, when two are equivalent, and what a schedule shows.
use Rattle.std.specs.Prelude.{◌≡◌, true, List, [], ◌∷◌, Option, Some}
use Rattle.tree_sleep_sets.specs.System.{System, Takes}

module _ (S : System) where
  -- each step of the schedule is enabled at its place
  abbrev pub Runs : S.World → List S.Step → Type 0
  Runs w [] = Unit {0}
  Runs w (a ∷ s) = (t : Takes S w a) × Runs t.world s

  -- the world that a run ends in
  abbrev pub final : (w : S.World) (s : List S.Step) → Runs w s → S.World
  final w [] r = w
  final w (a ∷ s) r = final r.0.world s r.1

  -- the last event of a run that follows another event, or none
  abbrev pub latest : Option S.Event → (w : S.World) (s : List S.Step) → Runs w s → Option S.Event
  latest o w [] r = o
  latest o w (a ∷ s) r = latest (Some r.0.event) r.0.world s r.1

  -- one schedule becomes the other by swaps of neighbours that are independent at their places
  pub data Equivalent : S.World → List S.Step → List S.Step → Type 0 where
    Itself : {w : S.World} {s : List S.Step} → Equivalent w s s
    Swap : {w : S.World} {a b : S.Step} {s : List S.Step} → S.independent w a b ≡ true → Equivalent w (a ∷ b ∷ s) (b ∷ a ∷ s)
    After : {w : S.World} {a : S.Step} {r s : List S.Step} (t : Takes S w a) → Equivalent t.world r s → Equivalent w (a ∷ r) (a ∷ s)
    Chain : {w : S.World} {q r s : List S.Step} → Equivalent w q r → Equivalent w r s → Equivalent w q s
