-- What is found in the trees of small modules.
use Rattle.std.specs.Prelude.{◌≡◌, ℕ, true, false, List, [], ◌∷◌, Some, None, codes}
use Rattle.term_core.specs.declared.step.Step.TheVariants.{Turn, Deliver}
use Rattle.core_tree.specs.Callee as callees
use Rattle.core_tree.specs.Expression as trees
use Rattle.core_tree.specs.Syntax.{ModuleTree, trees_of}
use Rattle.core_calls.specs.declared.call.CallKind.TheVariants as kinds
use Rattle.world_model.specs.Asking.{program_of}
use Rattle.world_model.specs.ExampleRuns.{P, P_1, P_2, t, error_of}
use Rattle.world_model.specs.Modules.{module_of, main, child, spawn_child, in_turn, signed, wait}
use Rattle.world_model.specs.ReceiveExamples.{hears, hurries}
use Rattle.world_model.specs.Shown.{End, Deadlock, Runaway, RefusedCall, Flags}
use Rattle.world_model.specs.ShownExamples.{plain, strict}
use Rattle.world_model.specs.TableExamples.{stranger}
use Rattle.world_model.specs.Terms.{atom, number, tuple}
use Rattle.world_model.specs.declared.rule.Rule.TheVariants.{PrivateRead, ProtectedWrite, NoTable}
use Rattle.tree_coverage.specs.Findings.{Finding, findings_of}
use Rattle.tree_coverage.specs.Shown.{c_2, ended, refused_by}
use Rattle.tree_coverage.specs.Trees.{p, idle, two_tables, private_read, two_keys, HasNodes}

-- just these findings, under the flags, to this depth
abbrev pub HasFindings : Flags → ModuleTree → ℕ → List Finding → List Finding → Type 0
HasFindings flags m n errors refusals = findings_of flags (program_of m) n ≡ record { errors = errors; refusals = refusals }

-- a process that ends at once shows nothing
abbrev pub IdleIsClean : Type 0
IdleIsClean = HasFindings plain idle 1 [] []

abbrev pub write_to_none : Finding
write_to_none = record { identity = refused_by NoTable None; schedule = p ∷ p ∷ p ∷ c_2 ∷ [] }

abbrev pub write_to_owned : Finding
write_to_owned = record { identity = refused_by ProtectedWrite (Some P); schedule = p ∷ p ∷ c_2 ∷ [] }

abbrev pub stranger_ends : Finding
stranger_ends = record { identity = ended; schedule = p ∷ p ∷ c_2 ∷ c_2 ∷ [] }

-- another process writes a protected table: it is refused by two rules, and ends with that, shown by the least schedule of three
abbrev pub StrangerIsFound : Type 0
StrangerIsFound = HasFindings plain stranger 5 (stranger_ends ∷ []) (write_to_none ∷ write_to_owned ∷ [])

-- where access is strict, the write to a table of another is an error too
abbrev pub StrangerIsStrange : Type 0
StrangerIsStrange = HasFindings strict stranger 5 (stranger_ends ∷ write_to_owned ∷ []) (write_to_none ∷ write_to_owned ∷ [])

-- ---- a private table is read by another process, which goes on

abbrev pub read_of_private : Finding
read_of_private = record { identity = RefusedCall P_2 1 kinds.Lookup (t ∷ atom (codes "a") ∷ []) PrivateRead (Some P); schedule = p ∷ p ∷ c_2 ∷ [] }

abbrev pub ReadIsFound : Type 0
ReadIsFound = HasFindings plain private_read 3 [] (read_of_private ∷ [])

abbrev pub ReadIsStrange : Type 0
ReadIsStrange = HasFindings strict private_read 3 (read_of_private ∷ []) (read_of_private ∷ [])

-- ---- two processes put objects into one table: the second may come after the end of the first, which takes the table with it

abbrev pub put_too_late : Finding
put_too_late = record { identity = RefusedCall P_2 1 kinds.Insert (t ∷ tuple (atom (codes "b") ∷ number 1 ∷ []) ∷ []) NoTable None; schedule = p ∷ p ∷ p ∷ p ∷ c_2 ∷ [] }

abbrev pub ends_too_late : Finding
ends_too_late = record { identity = ended; schedule = p ∷ p ∷ p ∷ p ∷ c_2 ∷ c_2 ∷ [] }

abbrev pub LatePutIsFound : Type 0
LatePutIsFound = HasFindings plain two_keys 6 (ends_too_late ∷ []) (put_too_late ∷ [])

-- no shorter schedule is late
abbrev pub FourStepsAreClean : Type 0
FourStepsAreClean = HasFindings plain two_keys 4 [] []

-- ---- two processes that do not meet: at two nodes all that is enabled sleeps, and that is no deadlock

abbrev pub SleepIsNoDeadlock : Type 0
SleepIsNoDeadlock = HasFindings plain two_tables 5 [] []

-- ---- two processes that wait for ever

abbrev pub two_wait : ModuleTree
two_wait = module_of (main (in_turn spawn_child wait) ∷ child wait ∷ [])

abbrev pub both_wait : Finding
both_wait = record { identity = Deadlock (P ∷ P_1 ∷ []); schedule = p ∷ [] }

abbrev pub TwoWaitHaveOne : Type 0
TwoWaitHaveOne = HasNodes two_wait 0 1

abbrev pub TwoWaitHaveTwo : Type 0
TwoWaitHaveTwo = HasNodes two_wait 1 2

abbrev pub DeadlockIsFound : Type 0
DeadlockIsFound = HasFindings plain two_wait 1 (both_wait ∷ []) []

-- before the first step no error is shown
abbrev pub NoStepIsClean : Type 0
NoStepIsClean = HasFindings plain two_wait 0 [] []

abbrev pub allowing : Flags
allowing = record { allow_deadlock = true; strict_access = false; idle_servers = false }

abbrev pub AllowedIsClean : Type 0
AllowedIsClean = HasFindings allowing two_wait 1 [] []

-- ---- a message may come before the timeout, or after it

abbrev pub got : Finding
got = record { identity = End P (error_of (codes "got")); schedule = p ∷ Turn P_1 ∷ Deliver P_1 P ∷ p ∷ p ∷ [] }

abbrev pub late : Finding
late = record { identity = End P (error_of (codes "late")); schedule = p ∷ p ∷ p ∷ [] }

abbrev pub BothEndsAreFound : Type 0
BothEndsAreFound = HasFindings plain hurries 5 (got ∷ late ∷ []) []

-- ---- of two children that send to their parent the second may be heard first, and that takes six steps

abbrev pub second_is_heard : Finding
second_is_heard = record { identity = End P (error_of (codes "bad")); schedule = p ∷ p ∷ c_2 ∷ Deliver P_2 P ∷ p ∷ p ∷ [] }

abbrev pub SecondIsFound : Type 0
SecondIsFound = HasFindings plain hears 6 (second_is_heard ∷ []) []

abbrev pub FiveStepsAreClean : Type 0
FiveStepsAreClean = HasFindings plain hears 5 [] []

-- ---- a function that applies itself for ever

abbrev pub endless : ModuleTree
endless = module_of (main (trees.Call 0 (callees.Defined (signed (codes "main") [])) (trees_of [])) ∷ [])

abbrev pub endless_turn : Finding
endless_turn = record { identity = Runaway P; schedule = p ∷ [] }

abbrev pub EndlessHasTwo : Type 0
EndlessHasTwo = HasNodes endless 1 2

abbrev pub EndlessIsFound : Type 0
EndlessIsFound = HasFindings plain endless 1 (endless_turn ∷ []) []
