-- What the laws of excuses say.
use Rattle.std.specs.List.{list_any}
use Rattle.std.specs.Prelude.{◌≡◌, ◌↔◌, ◌⊎◌, ◌||◌, not, ℕ, true, false, List, []}
use Rattle.term_core.specs.Meaning.{Meaning}
use Rattle.world_model.specs.Events.{History}
use Rattle.world_model.specs.Names.{IsAmong, same_term}
use Rattle.world_model.specs.Requests.{Program}
use Rattle.world_model.specs.Run.{living}
use Rattle.world_model.specs.Shown.{Identity, Flags, has_first, is_error, shown_at_rest, with_messages}
use Rattle.tree_coverage.specs.Covers.{is_empty}
use Rattle.tree_coverage.specs.Findings.{Finding, IsFound}
use Rattle.tree_schedules.specs.Schedules.{IsEverShownBy, IsShownBy}
use Rattle.tree_schedules.specs.declared.delivery.Delivery.{Delivery}
use Rattle.tree_excuses.specs.Excuses.{Excuses, no_excuses, is_normal, counts, counted, taken}
use Rattle.tree_excuses.specs.Patterns.{any, has_any, matches}

-- the errors that are listed are those for which this is true
abbrev pub AreErrorsThat : Flags → (Identity → Type 0) → List Finding → Type 0
AreErrorsThat flags Holds fs = (i : Identity) → IsFound i fs ↔ ((is_error flags i ≡ true) × Holds i)

-- then those that count are listed exactly where this is true of them, and so are those that are taken as normal
pub record AreJudged (flags : Flags) (x : Excuses) (Holds : Identity → Type 0) (fs : List Finding) : Type 0 where
  pub errors : (i : Identity) → IsFound i (counted x fs) ↔ ((counts flags x i ≡ true) × Holds i)
  pub normal : (i : Identity) → IsFound i (taken x fs) ↔ ((is_normal flags x i ≡ true) × Holds i)

-- of what schedules of at most so many steps show, of all or of those that deliver signals at once
abbrev pub JudgedAreExact : Type 0
JudgedAreExact = (flags : Flags) (x : Excuses) (d : Delivery) (a : Program) (n : ℕ) (fs : List Finding) → AreErrorsThat flags (IsShownBy d a n) fs → AreJudged flags x (IsShownBy d a n) fs

-- and of what schedules of whatever length show
abbrev pub JudgedAreWhole : Type 0
JudgedAreWhole = (flags : Flags) (x : Excuses) (d : Delivery) (a : Program) (fs : List Finding) → AreErrorsThat flags (IsEverShownBy d a) fs → AreJudged flags x (IsEverShownBy d a) fs

-- each error that was found counts or is taken as normal, and nothing else is listed
abbrev pub NothingIsLost : Type 0
NothingIsLost = (x : Excuses) (f : Finding) (fs : List Finding) → IsAmong f fs ↔ (IsAmong f (counted x fs) ⊎ IsAmong f (taken x fs))

-- without excuses all count, and none is taken as normal
abbrev pub NoExcusesChangeNothing : Type 0
NoExcusesChangeNothing = (fs : List Finding) → (counted no_excuses fs ≡ fs) × (taken no_excuses fs ≡ [])

-- ---- idle servers

-- where servers have to be idle, and no step is enabled, an error counts exactly where the first process lives then, or one that has messages
abbrev pub RestIsJudged : Type 0
RestIsJudged = (flags : Flags) (x : Excuses) (h : History) → flags.allow_deadlock ≡ false → flags.idle_servers ≡ true → x.main_deadlock ≡ true
    → list_any (counts flags x) (shown_at_rest [] h) ≡ (has_first (living h) || not (is_empty (with_messages h (living h))))

-- ---- patterns

-- '_' matches each term
abbrev pub AnyMatchesAll : Type 0
AnyMatchesAll = (m : Meaning) → matches any m ≡ true

-- each term matches itself
abbrev pub EachMatchesItself : Type 0
EachMatchesItself = (p m : Meaning) → same_term p m ≡ true → matches p m ≡ true

-- and a term without '_' matches itself alone
abbrev pub PlainMatchesItselfAlone : Type 0
PlainMatchesItselfAlone = (p m : Meaning) → has_any p ≡ false → matches p m ≡ same_term p m
