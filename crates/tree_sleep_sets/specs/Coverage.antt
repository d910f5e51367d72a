-- What a whole tree covers.
use Rattle.std.specs.Prelude.{ℕ, ◌≤◌, ◌↔◌, List, [], length}
use Rattle.tree_sleep_sets.specs.System.{System}
use Rattle.tree_sleep_sets.specs.Schedules.{Runs, Equivalent}
use Rattle.tree_sleep_sets.specs.Tree.{Plan, IsPath}
use Rattle.tree_sleep_sets.specs.Shown.{Signs, IsShown, IsShownByNode}

-- each schedule of at most so many steps that runs is equivalent to the path of a node
abbrev pub CoversSchedules : (S : System) (P : Plan S) → ℕ → P.Place → S.World → Type 0
CoversSchedules S P n x w =
    (s : List S.Step) → length s ≤ n → Runs S w s → (p : List S.Step) × IsPath S P n x w [] p × Equivalent S w s p

-- the schedules of at most so many steps and the nodes show the same
abbrev pub CoversSigns : (S : System) (I : Signs S) (P : Plan S) → ℕ → P.Place → S.World → Type 0
CoversSigns S I P n x w = (i : I.Identity) → IsShown S I n w i ↔ IsShownByNode S I P n x w i
