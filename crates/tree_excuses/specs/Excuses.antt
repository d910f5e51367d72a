-- Which errors are excused, and so taken as normal.
use Rattle.std.specs.List.{filter, list_any}
use Rattle.std.specs.Prelude.{Bool, false, ◌&&◌, ◌||◌, not, List, [], map}
use Rattle.term_core.specs.Meaning.{Meaning}
use Rattle.term_core.specs.Term.{meaning_of}
use Rattle.world_model.specs.Shown.{Identity, End, Deadlock, Runaway, RefusedCall, Unread, Flags, has_first, is_error}
use Rattle.tree_coverage.specs.Covers.{is_empty}
use Rattle.tree_coverage.specs.Findings.{Finding}
use Rattle.tree_excuses.specs.declared.excuses.Excuses as declared
use Rattle.tree_excuses.specs.declared.standing.Standing.{Standing}
use Rattle.tree_excuses.specs.declared.standing.Standing.TheVariants.{Counts, Normal}
use Rattle.tree_excuses.specs.Patterns.{matches}

-- a deadlock in which the first process does not wait, where only those of the first process count; and ends with a reason that one of these patterns matches
pub record Excuses : Type 0 where
  pub main_deadlock : Bool
  pub normal : List Meaning

-- as they are stored
abbrev pub excuses_in : declared.Excuses → Excuses
excuses_in x = record { main_deadlock = x.main_deadlock; normal = map meaning_of x.normal.items }

-- nothing is excused
abbrev pub no_excuses : Excuses
no_excuses = record { main_deadlock = false; normal = [] }

-- something may be
abbrev pub are_any : Excuses → Bool
are_any x = x.main_deadlock || not (is_empty x.normal)

-- ---- what is excused

-- an end with a reason that one of the patterns matches; a deadlock without the first process, where only those with it count; and nothing else
abbrev pub is_excused : Excuses → Identity → Bool
is_excused x (End p reason) = list_any (λ it. matches it reason) x.normal
is_excused x (Deadlock ps) = x.main_deadlock && not (has_first ps)
is_excused x (Runaway p) = false
is_excused x (RefusedCall p request kind arguments rule told) = false
is_excused x (Unread ps) = false

-- an error that is not excused counts as one
abbrev pub counts : Flags → Excuses → Identity → Bool
counts flags x i = is_error flags i && not (is_excused x i)

-- one that is excused is taken as normal
abbrev pub is_normal : Flags → Excuses → Identity → Bool
is_normal flags x i = is_error flags i && is_excused x i

-- ---- of the errors that were found

-- an error has this standing: it counts where it is not excused, and is normal where it is
abbrev pub stands : Excuses → Standing → Identity → Bool
stands x Counts i = not (is_excused x i)
stands x Normal i = is_excused x i

-- those that have this standing
abbrev pub those_that : Excuses → Standing → List Finding → List Finding
those_that x standing = filter (λ f. stands x standing f.identity)

-- those that count
abbrev pub counted : Excuses → List Finding → List Finding
counted x = those_that x Counts

-- those that are taken as normal
abbrev pub taken : Excuses → List Finding → List Finding
taken x = those_that x Normal
