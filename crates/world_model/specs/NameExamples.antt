-- Watches by name, messages to a name at a node, and what is told of processes and of names, in small modules (Erlang manual, `monitor/2`, `send/2`, `process_info/2`, `registered/0`).
use Rattle.std.specs.Prelude.{◌∷◌, List, [], codes}
use Rattle.term_core.specs.Meaning.{Meaning, Nil}
use Rattle.term_core.specs.declared.step.Step.{Step}
use Rattle.term_core.specs.declared.step.Step.TheVariants.{Turn, Deliver}
use Rattle.core_tree.specs.Syntax.{ModuleTree, Tree}
use Rattle.core_calls.specs.declared.call.CallKind.TheVariants as kinds
use Rattle.world_model.specs.BondExamples.{me, x}
use Rattle.world_model.specs.Events.{Event, event, Delivered, Down, Guarded, Refused, Badarg, Arrives, IsDropped}
use Rattle.world_model.specs.ExampleRuns.{P, P_1, EndsWith, HasNoRun, normal, serves_it}
use Rattle.world_model.specs.GuardExamples.{first_ref}
use Rattle.world_model.specs.Modules.{the, the_atom, the_tuple, the_list, ask_for, in_turn, with_result, module_of, main, child, spawn_child, wait}
use Rattle.world_model.specs.Names.{Name, Ref, own_node}
use Rattle.world_model.specs.Orders.{Tells}
use Rattle.world_model.specs.ProcessLines.{noproc}
use Rattle.world_model.specs.Signals.{down_message}
use Rattle.world_model.specs.Terms.{atom, list_of, number, process, tuple}
use Rattle.world_model.specs.World.{mailbox}

abbrev pub third_ref : Ref
third_ref = record { pid = []; number = 3 }

abbrev pub n : Tree
n = the_atom (codes "n")

-- ---- a child has the name 'n', which is watched

abbrev pub register_as : Name → Tree → Tree
register_as name whom = ask_for kinds.Register (the_atom name ∷ whom ∷ [])

abbrev pub names_child : Tree → Tree → ModuleTree
names_child body other = module_of (main (with_result (codes "C") spawn_child (in_turn (register_as (codes "n") (the (codes "C"))) body)) ∷ child other ∷ [])

abbrev pub watch_of : Tree → Tree
watch_of whom = ask_for kinds.Monitor (the_atom (codes "process") ∷ whom ∷ [])

abbrev pub at_node : Name → Tree
at_node node = the_tuple (n ∷ the_atom node ∷ [])

-- what the message of the watch calls it
abbrev pub n_here : Meaning
n_here = tuple (atom (codes "n") ∷ atom own_node ∷ [])

abbrev pub is_told : Event
is_told = event (Deliver P_1 P) (Delivered (Down third_ref normal) (Arrives (down_message third_ref n_here normal)))

-- the child ends, and its signal comes
abbrev pub it_ends : List Step
it_ends = Turn P_1 ∷ Deliver P_1 P ∷ []

abbrev pub NameIsTold : Type 0
NameIsTold = EndsWith (names_child (watch_of n) (the_atom (codes "x"))) (Turn P ∷ Turn P ∷ Turn P ∷ it_ends) is_told

abbrev pub NodeIsTold : Type 0
NodeIsTold = EndsWith (names_child (watch_of (at_node own_node)) (the_atom (codes "x"))) (Turn P ∷ Turn P ∷ Turn P ∷ it_ends) is_told

-- the process is watched that had the name then, and is called by it though it has it no longer
abbrev pub FormerNameIsTold : Type 0
FormerNameIsTold = EndsWith (names_child (in_turn (watch_of n) (ask_for kinds.Unregister (n ∷ []))) (the_atom (codes "x"))) (Turn P ∷ Turn P ∷ Turn P ∷ Turn P ∷ it_ends) is_told

abbrev pub AnotherNodeIsRefused : Type 0
AnotherNodeIsRefused =
    EndsWith (module_of (main (watch_of (at_node (codes "a"))) ∷ [])) (Turn P ∷ [])
    (event (Turn P) (Refused kinds.Monitor (atom (codes "process") ∷ tuple (atom (codes "n") ∷ atom (codes "a") ∷ []) ∷ []) Badarg))

-- ---- nobody has the name: the message comes at once

abbrev pub watches_nobody : Tree → ModuleTree
watches_nobody body = module_of (main (with_result (codes "R") (watch_of n) body) ∷ [])

abbrev pub NobodyIsTold : Type 0
NobodyIsTold = EndsWith (watches_nobody wait) (Turn P ∷ Deliver P P ∷ []) (event (Deliver P P) (Delivered (Down first_ref noproc) (Arrives (down_message first_ref n_here noproc))))

abbrev pub UnwatchedNobodyIsDropped : Type 0
UnwatchedNobodyIsDropped = EndsWith (watches_nobody (ask_for kinds.Demonitor (the (codes "R") ∷ []))) (Turn P ∷ Turn P ∷ Deliver P P ∷ []) (event (Deliver P P) (Delivered (Down first_ref noproc) IsDropped))

-- of one's own name nothing ever comes
abbrev pub OwnNameIsNotTold : Type 0
OwnNameIsNotTold = HasNoRun (module_of (main (in_turn (register_as (codes "n") me) (in_turn (watch_of n) wait)) ∷ [])) (Turn P ∷ Turn P ∷ Deliver P P ∷ [])

-- ---- a watch by name with an alias

abbrev pub watch_with : Name → Tree
watch_with how = ask_for kinds.MonitorWith (the_atom (codes "process") ∷ n ∷ the_list (the_tuple (the_atom (codes "alias") ∷ the_atom how ∷ []) ∷ []) ∷ [])

-- an alias that ends alone leaves the watch and its name
abbrev pub NameOutlivesAlias : Type 0
NameOutlivesAlias =
    EndsWith (names_child (with_result (codes "R") (watch_with (codes "demonitor")) (ask_for kinds.Unalias (the (codes "R") ∷ []))) (the_atom (codes "x")))
    (Turn P ∷ Turn P ∷ Turn P ∷ Turn P ∷ it_ends) is_told

-- with the message of a name that nobody has an alias ends, and a message through it comes too late
abbrev pub to_alias : Name → ModuleTree
to_alias how = module_of (main (with_result (codes "R") (watch_with how) (in_turn (ask_for kinds.Bang (the (codes "R") ∷ the_atom (codes "x") ∷ [])) wait)) ∷ [])

abbrev pub both_come : List Step
both_come = Turn P ∷ Turn P ∷ Deliver P P ∷ Deliver P P ∷ []

abbrev pub NobodyEndsAlias : Type 0
NobodyEndsAlias = EndsWith (to_alias (codes "demonitor")) both_come (event (Deliver P P) (Delivered (Guarded first_ref x) IsDropped))

abbrev pub NobodyLeavesAlias : Type 0
NobodyLeavesAlias = EndsWith (to_alias (codes "explicit_unalias")) both_come (event (Deliver P P) (Delivered (Guarded first_ref x) (Arrives x)))

-- ---- a message to a name at a node

abbrev pub sends_to : Tree → ModuleTree
sends_to whom = module_of (main (in_turn (register_as (codes "n") me) (ask_for kinds.Bang (whom ∷ the_atom (codes "x") ∷ []))) ∷ [])

abbrev pub NodeIsSent : Type 0
NodeIsSent = Tells (λ h. mailbox h P) (sends_to (at_node own_node)) (Turn P ∷ Turn P ∷ []) (x ∷ [])

abbrev pub AnotherNodeIsNotSent : Type 0
AnotherNodeIsNotSent = Tells (λ h. mailbox h P) (sends_to (at_node (codes "a"))) (Turn P ∷ Turn P ∷ []) []

-- where nobody has the name, nothing is put, and the answer is the message
abbrev pub NobodyIsSent : Type 0
NobodyIsSent =
    EndsWith (module_of (main (ask_for kinds.Bang (at_node own_node ∷ the_atom (codes "x") ∷ [])) ∷ [])) (Turn P ∷ [])
    (serves_it P kinds.Bang (n_here ∷ x ∷ []) x)

-- ---- what is told of a process

abbrev pub ask_of : Tree → Name → Tree
ask_of whom item = ask_for kinds.ProcessInfo (whom ∷ the_atom item ∷ [])

abbrev pub told_of : List Meaning → Meaning → Event
told_of arguments answer = serves_it P kinds.ProcessInfo arguments answer

abbrev pub OwnNameIsAsked : Type 0
OwnNameIsAsked =
    EndsWith (module_of (main (in_turn (register_as (codes "n") me) (ask_of me (codes "registered_name"))) ∷ [])) (Turn P ∷ Turn P ∷ [])
    (told_of (process P ∷ atom (codes "registered_name") ∷ []) (tuple (atom (codes "registered_name") ∷ atom (codes "n") ∷ [])))

abbrev pub NoNameIsAsked : Type 0
NoNameIsAsked = EndsWith (module_of (main (ask_of me (codes "registered_name")) ∷ [])) (Turn P ∷ []) (told_of (process P ∷ atom (codes "registered_name") ∷ []) Nil)

abbrev pub UnknownItemIsRefused : Type 0
UnknownItemIsRefused = EndsWith (module_of (main (ask_of me (codes "x")) ∷ [])) (Turn P ∷ []) (event (Turn P) (Refused kinds.ProcessInfo (process P ∷ x ∷ []) Badarg))

-- of another one it waits until one's own messages have come
abbrev pub counts_others : Tree → ModuleTree
counts_others other = module_of (main (with_result (codes "C") spawn_child (in_turn (ask_for kinds.Bang (the (codes "C") ∷ the_atom (codes "x") ∷ [])) (ask_of (the (codes "C")) (codes "message_queue_len")))) ∷ child other ∷ [])

abbrev pub asked_of_child : List Meaning
asked_of_child = process P_1 ∷ atom (codes "message_queue_len") ∷ []

abbrev pub CountWaits : Type 0
CountWaits = HasNoRun (counts_others wait) (Turn P ∷ Turn P ∷ Turn P ∷ [])

abbrev pub MessageIsCounted : Type 0
MessageIsCounted =
    EndsWith (counts_others wait) (Turn P ∷ Turn P ∷ Deliver P P_1 ∷ Turn P ∷ [])
    (told_of asked_of_child (tuple (atom (codes "message_queue_len") ∷ number 1 ∷ [])))

abbrev pub TakenIsNotCounted : Type 0
TakenIsNotCounted =
    EndsWith (counts_others wait) (Turn P ∷ Turn P ∷ Deliver P P_1 ∷ Turn P_1 ∷ Turn P ∷ [])
    (told_of asked_of_child (tuple (atom (codes "message_queue_len") ∷ number 0 ∷ [])))

abbrev pub OfTheDeadNothingIsTold : Type 0
OfTheDeadNothingIsTold = EndsWith (counts_others (the_atom (codes "x"))) (Turn P ∷ Turn P_1 ∷ Turn P ∷ Turn P ∷ []) (told_of asked_of_child (atom (codes "undefined")))

-- ---- all names

abbrev pub lists_names : ModuleTree
lists_names = names_child (in_turn (register_as (codes "a") me) (ask_for kinds.Registered [])) (the_atom (codes "x"))

abbrev pub NamesAreListed : Type 0
NamesAreListed = EndsWith lists_names (Turn P ∷ Turn P ∷ Turn P ∷ Turn P ∷ []) (serves_it P kinds.Registered [] (list_of (atom (codes "a") ∷ atom (codes "n") ∷ [])))

-- a name goes with its process
abbrev pub NameIsNotListed : Type 0
NameIsNotListed = EndsWith lists_names (Turn P ∷ Turn P ∷ Turn P ∷ Turn P_1 ∷ Turn P ∷ []) (serves_it P kinds.Registered [] (list_of (atom (codes "a") ∷ [])))
