-- What a few findings result in, as worked out by hand.
use Rattle.std.specs.Prelude.{◌≡◌, List, [], ◌∷◌, None, Some, true, false}
use Rattle.term_core.specs.declared.step.Step.{Step}
use Rattle.term_core.specs.declared.step.Step.TheVariants.{Turn}
use Rattle.core_calls.specs.declared.call.CallKind.TheVariants as kinds
use Rattle.world_model.specs.ExampleRuns.{P, P_1}
use Rattle.world_model.specs.Shown.{Identity, Flags, Runaway, Deadlock, RefusedCall, Unread}
use Rattle.world_model.specs.declared.rule.Rule.TheVariants.{NoTable, ProtectedWrite}
use Rattle.tree_coverage.specs.Findings.{Finding}
use Rattle.tree_findings.specs.Merging.{merged, with_shown, merged_findings, nothing}

abbrev pub p : Step
p = Turn P

abbrev pub runs_away : Identity
runs_away = Runaway P

abbrev pub none_goes_on : Identity
none_goes_on = Deadlock (P ∷ P_1 ∷ [])

abbrev pub not_taken : Identity
not_taken = Unread (P_1 ∷ [])

abbrev pub late : Identity
late = RefusedCall P_1 1 kinds.Insert [] NoTable None

abbrev pub strange : Identity
strange = RefusedCall P_1 1 kinds.Insert [] ProtectedWrite (Some P)

abbrev pub by : Identity → List Step → Finding
by i s = record { identity = i; schedule = s }

abbrev pub strict : Flags
strict = record { allow_deadlock = false; strict_access = true; idle_servers = false }

abbrev pub lenient : Flags
lenient = record { allow_deadlock = true; strict_access = false; idle_servers = false }

abbrev pub idle : Flags
idle = record { allow_deadlock = false; strict_access = false; idle_servers = true }

-- of two schedules that show the same the shorter one is kept, whichever comes first
abbrev pub ShorterIsKept : Type 0
ShorterIsKept = merged (by runs_away (p ∷ p ∷ []) ∷ []) (by runs_away (p ∷ []) ∷ []) ≡ by runs_away (p ∷ []) ∷ []

abbrev pub ShorterStays : Type 0
ShorterStays = merged (by runs_away (p ∷ []) ∷ []) (by runs_away (p ∷ p ∷ []) ∷ []) ≡ by runs_away (p ∷ []) ∷ []

-- a deadlock comes before a process that runs away
abbrev pub BothAreKept : Type 0
BothAreKept = merged (by runs_away (p ∷ []) ∷ []) (by none_goes_on (p ∷ p ∷ []) ∷ []) ≡ by none_goes_on (p ∷ p ∷ []) ∷ by runs_away (p ∷ []) ∷ []

-- one call that is refused by two rules is found twice
abbrev pub RefusalsAreMerged : Type 0
RefusalsAreMerged = merged_findings (with_shown lenient (p ∷ []) (strange ∷ []) nothing) (with_shown lenient (p ∷ p ∷ []) (late ∷ []) nothing)
    ≡ record { errors = []; refusals = by late (p ∷ p ∷ []) ∷ by strange (p ∷ []) ∷ [] }

-- a refused access is an error too where access is strict, and a deadlock where it is not allowed
abbrev pub ErrorsAreStrict : Type 0
ErrorsAreStrict = with_shown strict (p ∷ []) (strange ∷ none_goes_on ∷ []) nothing ≡ record { errors = by none_goes_on (p ∷ []) ∷ by strange (p ∷ []) ∷ []; refusals = by strange (p ∷ []) ∷ [] }

abbrev pub DeadlockIsAllowed : Type 0
DeadlockIsAllowed = with_shown lenient (p ∷ []) (strange ∷ none_goes_on ∷ []) nothing ≡ record { errors = []; refusals = by strange (p ∷ []) ∷ [] }

-- what is unread comes last of all errors, and is one only where servers have to be idle
abbrev pub UnreadComesLast : Type 0
UnreadComesLast = with_shown idle (p ∷ []) (not_taken ∷ runs_away ∷ none_goes_on ∷ []) nothing ≡ record { errors = by none_goes_on (p ∷ []) ∷ by runs_away (p ∷ []) ∷ by not_taken (p ∷ []) ∷ []; refusals = [] }

abbrev pub UnreadIsLeftOut : Type 0
UnreadIsLeftOut = with_shown strict (p ∷ []) (not_taken ∷ none_goes_on ∷ []) nothing ≡ record { errors = by none_goes_on (p ∷ []) ∷ []; refusals = [] }
