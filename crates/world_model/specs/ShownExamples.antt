-- What the histories of small modules show.
use Rattle.std.specs.Prelude.{◌≡◌, ◌∷◌, [], List, Some, true, false, option_map, codes}
use Rattle.term_core.specs.declared.step.Step.{Step}
use Rattle.term_core.specs.declared.step.Step.TheVariants.{Turn}
use Rattle.core_tree.specs.Syntax.{DefinitionTree, ModuleTree, Tree}
use Rattle.core_calls.specs.declared.call.CallKind.TheVariants as kinds
use Rattle.world_model.specs.Asking.{program_of}
use Rattle.world_model.specs.ExampleRuns.{P, P_1, P_2, t, a_1, error_of}
use Rattle.world_model.specs.Modules.{the, the_atom, ask_for, in_turn, module_of, main, child, spawn_child, on, only, receive, for_ever, wait}
use Rattle.world_model.specs.ReceiveExamples.{as_me}
use Rattle.world_model.specs.Run.{run}
use Rattle.world_model.specs.Shown.{Identity, End, Deadlock, RefusedCall, Unread, Flags, shown, errors_of, refusals_of}
use Rattle.world_model.specs.TableExamples.{writes, stranger}
use Rattle.world_model.specs.declared.rule.Rule.TheVariants.{ProtectedWrite}

-- a schedule of the module shows just these
abbrev pub ShowsJust : ModuleTree → List Step → List Identity → Type 0
ShowsJust m steps is = option_map (shown (program_of m)) (run (program_of m) steps) ≡ Some is

-- and these of them are errors, by these flags
abbrev pub HasErrors : Flags → ModuleTree → List Step → List Identity → Type 0
HasErrors flags m steps is = option_map (errors_of flags (program_of m)) (run (program_of m) steps) ≡ Some is

abbrev pub HasRefusals : ModuleTree → List Step → List Identity → Type 0
HasRefusals m steps is = option_map (refusals_of (program_of m)) (run (program_of m) steps) ≡ Some is

abbrev pub plain : Flags
plain = record { allow_deadlock = false; strict_access = false; idle_servers = false }

abbrev pub strict : Flags
strict = record { allow_deadlock = false; strict_access = true; idle_servers = false }

abbrev pub idle : Flags
idle = record { allow_deadlock = false; strict_access = false; idle_servers = true }

-- a call of the stranger that is refused: the second step of its parent comes first
abbrev pub refused_steps : List Step
refused_steps = Turn P ∷ Turn P ∷ Turn P_2 ∷ []

abbrev pub refused_write : Identity
refused_write = RefusedCall P_2 1 kinds.Insert (t ∷ a_1 ∷ []) ProtectedWrite (Some P)

-- it is no error by itself, and one where access is strict; then the stranger ends with it, which is one
abbrev pub RefusalIsShown : Type 0
RefusalIsShown = ShowsJust stranger refused_steps (refused_write ∷ [])

abbrev pub RefusalIsListed : Type 0
RefusalIsListed = HasRefusals stranger refused_steps (refused_write ∷ [])

abbrev pub RefusalIsNoError : Type 0
RefusalIsNoError = HasErrors plain stranger refused_steps []

abbrev pub RefusalIsErrorIfStrict : Type 0
RefusalIsErrorIfStrict = HasErrors strict stranger refused_steps (refused_write ∷ [])

abbrev pub EndIsError : Type 0
EndIsError = HasErrors plain stranger (Turn P ∷ Turn P ∷ Turn P_2 ∷ Turn P_2 ∷ []) (End P_2 (error_of (codes "badarg")) ∷ [])

-- an end with reason 'normal' shows nothing, and where no process lives there is no deadlock
abbrev pub NormalEndShowsNothing : Type 0
NormalEndShowsNothing = ShowsJust writes (Turn P ∷ Turn P ∷ Turn P ∷ Turn P ∷ []) []

-- ---- a child sends itself 'a', and then receives

abbrev pub sends_itself : Tree → DefinitionTree
sends_itself body = child (as_me (in_turn (ask_for kinds.Bang (the (codes "Me") ∷ the_atom (codes "a") ∷ [])) body))

-- it waits for 'b' alone
abbrev pub wait_for_b : Tree
wait_for_b = receive (on (only (codes "b")) (the_atom (codes "x")) ∷ []) for_ever (the_atom (codes "x"))

-- its parent ends
abbrev pub left_alone : ModuleTree
left_alone = module_of (main spawn_child ∷ sends_itself wait_for_b ∷ [])

abbrev pub alone_steps : List Step
alone_steps = Turn P ∷ Turn P ∷ Turn P_1 ∷ []

-- the message is unread, which is an error where servers have to be idle
abbrev pub UnreadIsShown : Type 0
UnreadIsShown = ShowsJust left_alone alone_steps (Deadlock (P_1 ∷ []) ∷ Unread (P_1 ∷ []) ∷ [])

abbrev pub UnreadIsNoError : Type 0
UnreadIsNoError = HasErrors plain left_alone alone_steps (Deadlock (P_1 ∷ []) ∷ [])

abbrev pub UnreadIsErrorIfIdle : Type 0
UnreadIsErrorIfIdle = HasErrors idle left_alone alone_steps (Deadlock (P_1 ∷ []) ∷ Unread (P_1 ∷ []) ∷ [])

abbrev pub UnreadIsNoRefusal : Type 0
UnreadIsNoRefusal = HasRefusals left_alone alone_steps []

-- while the message may still be taken, nothing is shown
abbrev pub TakenIsNotUnread : Type 0
TakenIsNotUnread = ShowsJust (module_of (main spawn_child ∷ sends_itself wait ∷ [])) alone_steps []

-- a child that waits for any message is left with none
abbrev pub IdleHasNone : Type 0
IdleHasNone = ShowsJust (module_of (main spawn_child ∷ child wait ∷ [])) (Turn P ∷ Turn P ∷ []) (Deadlock (P_1 ∷ []) ∷ [])

-- where its parent waits too, both are dead-locked, and that is all
abbrev pub FirstWaitsToo : Type 0
FirstWaitsToo = ShowsJust (module_of (main (in_turn spawn_child wait) ∷ sends_itself wait_for_b ∷ [])) (Turn P ∷ Turn P_1 ∷ []) (Deadlock (P ∷ P_1 ∷ []) ∷ [])
