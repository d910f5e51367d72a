-- What follows states, as far as it is known, where what comes again is left out.
use Rattle.std.specs.List.{AllByRecursion}
use Rattle.std.specs.Prelude.{◌≡◌, ◌<◌, ◌≤◌, ◌⊎◌, ◌++◌, ℕ, List, [], ◌∷◌, Option, Some, None, Result, IfOk, length, map, slice_get, slice_range, take}
use Rattle.core_tree.specs.Syntax.{ModuleTree}
use Rattle.search_levels.specs.Arrivals.{AreArrivals, Arrived, of_module}
use Rattle.search_levels.specs.Known.{FromNowOn}
use Rattle.search_levels.specs.Rows.{HasRow}
use Rattle.search_levels.specs.inside.Expanding.{Arrives, GoesFrom}
use Rattle.search_levels.specs.inside.Levels.{AreOf}
use Rattle.search_levels.specs.inside.Visits.{Visit}
use Rattle.search_levels.specs.declared.following.Followed.{Followed}
use Rattle.search_levels.specs.declared.share.Share.{Share}
use Rattle.term_core.specs.declared.step.Step.{Step}
use Rattle.tree_coverage.specs.Findings.{Findings}
use Rattle.tree_schedules.specs.declared.delivery.Delivery.{Delivery}
use Rattle.world_identities.specs.Identities.{identity_in}
use Rattle.world_model.specs.Asking.{program_of}
use Rattle.world_model.specs.Events.{History}
use Rattle.world_model.specs.Names.{IsAmong}
use Rattle.world_model.specs.Requests.{Program}
use Rattle.world_model.specs.Shown.{Flags}

-- ---- what is left out

-- a step is left out: nothing is shown after it, and its row is among these
abbrev pub IsLeftOut : List (List ℕ) → Arrived → Type 0
IsLeftOut rows r = (r.of.shown.items ≡ []) × IsAmong r.row rows

-- the first is a copy of the second
pub record IsCopy (k r : Arrived) : Type 0 where
  pub step : k.of.step ≡ r.of.step
  pub shown : map identity_in k.of.shown.items ≡ map identity_in r.of.shown.items
  pub row : k.row ≡ r.row

-- of the first arrivals the others are copies, in their order; the row of each that has none is among these rows, or among those of copies before it
abbrev pub Thins : List (List ℕ) → List Arrived → List Arrived → Type 0
Thins rows [] [] = Unit {0}
Thins rows [] (k ∷ ks) = ⊥
Thins rows (r ∷ rs) [] = IsLeftOut rows r × Thins rows rs []
Thins rows (r ∷ rs) (k ∷ ks) = (IsLeftOut rows r × Thins rows rs (k ∷ ks)) ⊎ (IsCopy k r × Thins (k.row ∷ rows) rs ks)

-- these rows, with those of arrivals
abbrev pub rows_after : List Arrived → List (List ℕ) → List (List ℕ)
rows_after [] rows = rows
rows_after (k ∷ ks) rows = rows_after ks (k.row ∷ rows)

-- what follows a state, but for what is left out
abbrev pub FollowsOne : (List ℕ → List Arrived → Type 0) → List (List ℕ) → Visit → List Arrived → Type 0
FollowsOne AreAll rows x ks = (all : List Arrived) × AreAll x.row all × Thins rows all ks

-- from a place on arrivals follow states, up to its end each state, where it is known what follows it
abbrev pub AreFollowed : (List ℕ → List Arrived → Type 0) → List (List ℕ) → List Arrived → ℕ → List Visit → List (Option ℕ) → Type 0
AreFollowed AreAll rows ks at [] [] = at ≡ length ks
AreFollowed AreAll rows ks at [] (e ∷ es) = ⊥
AreFollowed AreAll rows ks at (x ∷ xs) [] = ⊥
AreFollowed AreAll rows ks at (x ∷ xs) (None ∷ es) = AreFollowed AreAll rows ks at xs es
AreFollowed AreAll rows ks at (x ∷ xs) (Some e ∷ es) = (at ≤ e) × (e ≤ length ks) × FollowsOne AreAll rows x (slice_range ks at e) × AreFollowed AreAll (rows_after (slice_range ks at e) rows) ks e xs es

-- these are all steps that may be taken in the world of a row, by what is known and by more, and the rows after them can be read
abbrev pub AreKnownArrivals : {K : Type 0} → (K → List ℕ → ModuleTree → History → Type 0) → (K → List ℕ → Type 0) → (K → K → Type 0) → K → Delivery → List ℕ → List Arrived → Type 0
AreKnownArrivals Agrees IsOf Follows known d row all =
    FromNowOn Follows known (λ k m. (h : History) → Agrees k row m h → AreArrivals d (of_module (Agrees k) m) (program_of m) h all) × AllByRecursion (λ r. IsOf known r.row) all

-- ---- what becomes of a level

-- each row of the first is one of the second
abbrev pub KeepsRows : List Visit → List Visit → Type 0
KeepsRows old new = (row : List ℕ) → HasRow old row → HasRow new row

-- and this one too
abbrev pub TakesRow : List Visit → List ℕ → List Visit → Type 0
TakesRow old row new = KeepsRows old new × HasRow new row

-- these steps are taken from a state to which this schedule leads, one after the other
abbrev pub ArriveAll : (List ℕ → Program → History → Type 0) → Flags → List Step → List Arrived → List Visit → List Visit → Findings → Findings → Type 0
ArriveAll Agrees flags schedule [] old new before after = (new ≡ old) × (after ≡ before)
ArriveAll Agrees flags schedule (r ∷ rs) old new before after =
    (mid : List Visit) × (found : Findings) × Arrives Agrees flags schedule r old mid before found × TakesRow old r.row mid × ArriveAll Agrees flags schedule rs mid new found after

-- so it is with those of them from one place on up to another one
abbrev pub ArriveSome : (List ℕ → Program → History → Type 0) → Flags → List Step → List Arrived → ℕ → ℕ → List Visit → List Visit → Findings → Findings → Type 0
ArriveSome Agrees flags schedule rs first last old new before after = ArriveAll Agrees flags schedule (slice_range rs first last) old new before after

-- each row of a level and those of arrivals are rows of another level
abbrev pub TakesRows : List Visit → List Arrived → List Visit → Type 0
TakesRows old rs new = KeepsRows old new × ((r : Arrived) → IsAmong r rs → HasRow new r.row)

-- where each state of a level can be read, and the rows of arrivals, each state of another level can
abbrev pub TakesInAll : (List ℕ → Type 0) → List Visit → List Arrived → List Visit → Type 0
TakesInAll IsOf old rs new = AreOf IsOf old → AllByRecursion (λ r. IsOf r.row) rs → AreOf IsOf new

-- the arrivals from this place on up to an end, or none where there is no end
abbrev pub taken_by : List Arrived → ℕ → Option ℕ → List Arrived
taken_by ks at None = []
taken_by ks at (Some e) = slice_range ks at e

-- the place after them
abbrev pub place_after : ℕ → Option ℕ → ℕ
place_after at None = at
place_after at (Some e) = e

-- where it is known what follows a state, that is there, but for what leads to rows of the next level
abbrev pub IsReady : (List ℕ → List Arrived → Type 0) → Visit → List Arrived → ℕ → Option ℕ → List Visit → Type 0
IsReady AreAll x ks at None next = Unit {0}
IsReady AreAll x ks at (Some e) next = (at ≤ e) × (e ≤ length ks) × (rows : List (List ℕ)) × FollowsOne AreAll rows x (slice_range ks at e) × ((row : List ℕ) → IsAmong row rows → HasRow next row)

-- what follows these states is there, after rows of the next level
pub record IsMerged (AreAll : List ℕ → List Arrived → Type 0) (ks : List Arrived) (at : ℕ) (xs : List Visit) (es : List (Option ℕ)) (next : List Visit) : Type 0 where
  pub rows : List (List ℕ)
  pub followed : AreFollowed AreAll rows ks at xs es
  pub have : (row : List ℕ) → IsAmong row rows → HasRow next row

-- ---- shares of a level

-- the places from this one to the end are shared out, one share after the other
abbrev pub AreShares : ℕ → ℕ → List Share → Type 0
AreShares at end [] = at ≡ end
AreShares at end (share ∷ shares) = (share.first ≡ at) × (at ≤ share.last) × (share.last ≤ end) × AreShares share.last end shares

-- after the states of a level before a share those of the share are expanded
abbrev pub GoesBy : Delivery → (List ℕ → Program → History → Type 0) → Flags → List Visit → Share → List Visit → List Visit → Findings → Findings → Type 0
GoesBy d Agrees flags level share old new before after = GoesFrom d Agrees flags (take share.first level) (take share.last level) old new before after

-- what follows the states of a share is listed, where there was memory for it
abbrev pub FollowsShare : {E : Type 0} → (List ℕ → List Arrived → Type 0) → List Visit → List Share → ℕ → Result Followed E → Type 0
FollowsShare AreAll level shares i r = (share : Share) → slice_get shares i ≡ Some share → IfOk r (λ f. AreFollowed AreAll [] f.arrivals 0 (slice_range level share.first share.last) f.ends.items)

-- so it is with each share
abbrev pub FollowShares : {E : Type 0} → (List ℕ → List Arrived → Type 0) → List Visit → List Share → List (Result Followed E) → Type 0
FollowShares AreAll level shares rs = (i : ℕ) (r : _) → i < length shares → slice_get rs i ≡ Some r → FollowsShare AreAll level shares i r

-- ---- what is kept

-- after rows that are kept, a copy of an arrival is kept too, or it is left out
abbrev pub IsKept : Arrived → List Arrived → List Arrived → Type 0
IsKept r old new = ((new ≡ old) × IsLeftOut (rows_after old []) r) ⊎ ((k : Arrived) × IsCopy k r × (new ≡ old ++ k ∷ []))

-- copies of arrivals are kept, but of those that are left out
pub record AreKept (rs old new : List Arrived) : Type 0 where
  pub kept : List Arrived
  pub is : new ≡ old ++ kept
  pub thins : Thins (rows_after old []) rs kept

-- what follows one more state is kept up to an end, or nothing where it is not known
abbrev pub FollowsNext : (List ℕ → List Arrived → Type 0) → Visit → List Arrived → List Arrived → Option ℕ → Type 0
FollowsNext AreAll x old new None = new ≡ old
FollowsNext AreAll x old new (Some e) = (all : List Arrived) × AreAll x.row all × AreKept all old new × (e ≡ length new)
