-- What schedules show.
use Rattle.std.specs.Prelude.{◌≡◌, ◌⊎◌, ℕ, ◌≤◌, List, [], Some, None, length}
use Rattle.tree_sleep_sets.specs.System.{System}
use Rattle.tree_sleep_sets.specs.Schedules.{Runs, final, latest}
use Rattle.tree_sleep_sets.specs.Tree.{Plan, IsPath}

-- what events and worlds show
pub record Signs (S : System) : Type 1 where
  pub Identity : Type 0
  pub event_shows : S.Event → Identity → Type 0
  pub state_shows : S.World → Identity → Type 0

-- worlds that agree show the same
pub record SignLaws (S : System) (I : Signs S) : Type 0 where
  pub same_shown : (v w : S.World) (i : I.Identity) → S.Same v w → I.state_shows v i → I.state_shows w i

module _ (S : System) (I : Signs S) where
  -- a schedule that runs shows what its last event shows, and what its final world shows
  abbrev pub Shows : S.World → List S.Step → I.Identity → Type 0
  Shows w s i =
      (r : Runs S w s) × (((e : S.Event) × (latest S None w s r ≡ Some e) × I.event_shows e i) ⊎ I.state_shows (final S w s r) i)

  -- a schedule of at most so many steps shows it
  abbrev pub IsShown : ℕ → S.World → I.Identity → Type 0
  IsShown n w i = (s : List S.Step) × (length s ≤ n) × Shows w s i

  -- a node of the tree shows it
  abbrev pub IsShownByNode : (P : Plan S) → ℕ → P.Place → S.World → I.Identity → Type 0
  IsShownByNode P n x w i = (p : List S.Step) × IsPath S P n x w [] p × Shows w p i
