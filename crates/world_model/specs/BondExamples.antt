-- Links and watches that end, that are made too late, and signals to oneself, in small modules.
use Rattle.std.specs.Prelude.{◌∷◌, List, [], Some, codes}
use Rattle.term_core.specs.Meaning.{Meaning}
use Rattle.term_core.specs.declared.step.Step.{Step}
use Rattle.term_core.specs.declared.step.Step.TheVariants.{Turn, Deliver}
use Rattle.core_tree.specs.Callee as callees
use Rattle.core_tree.specs.Expression as trees
use Rattle.core_tree.specs.Syntax.{ModuleTree, Tree, trees_of}
use Rattle.core_calls.specs.declared.call.CallKind.TheVariants as kinds
use Rattle.core_calls.specs.declared.pure.PureCall.TheVariants as pures
use Rattle.world_model.specs.Events.{event, Delivered, EndedItself, LinkExit, Down, Arrives, IsDropped, Kills}
use Rattle.world_model.specs.ExampleRuns.{P, P_1, P_2, R_1, t, EndsWith, HasNoRun, normal, serves_it}
use Rattle.world_model.specs.Modules.{the, the_atom, the_tuple, the_list, the_table, ask_for, compute, in_turn, with_result, module_of, main, child, spawn_child, spawn_linked, signed, new_table, look_up, wait}
use Rattle.world_model.specs.Names.{Ref}
use Rattle.world_model.specs.OrderExamples.{asks, me_as_n, unlinks}
use Rattle.world_model.specs.Orders.{Tells}
use Rattle.world_model.specs.ProcessExamples.{trap}
use Rattle.world_model.specs.ProcessLines.{noproc}
use Rattle.world_model.specs.Signals.{down_message, exit_message}
use Rattle.world_model.specs.Terms.{atom, list_of, process}
use Rattle.world_model.specs.World.{mailbox, owner}

abbrev pub second_ref : Ref
second_ref = record { pid = []; number = 2 }

abbrev pub x : Meaning
x = atom (codes "x")

abbrev pub me : Tree
me = compute pures.OwnPid []

-- ---- the link is gone before its signal comes

abbrev pub UnlinkedIsDropped : Type 0
UnlinkedIsDropped = EndsWith unlinks (Turn P ∷ Turn P_1 ∷ Turn P ∷ Deliver P_1 P ∷ []) (event (Deliver P_1 P) (Delivered (LinkExit normal) IsDropped))

-- and where the link is gone before its process ends, there is no signal
abbrev pub UnlinkedIsNotTold : Type 0
UnlinkedIsNotTold = HasNoRun unlinks (Turn P ∷ Turn P ∷ Turn P_1 ∷ Deliver P_1 P ∷ [])

-- ---- the partners of a process that ran away are informed

abbrev pub partner_runs_away : ModuleTree
partner_runs_away = module_of (main (in_turn spawn_linked wait) ∷ child (trees.Call 0 (callees.Defined (signed (codes "c") [])) (trees_of [])) ∷ [])

abbrev pub RunawayIsTold : Type 0
RunawayIsTold = EndsWith partner_runs_away (Turn P ∷ Turn P_1 ∷ Deliver P_1 P ∷ []) (event (Deliver P_1 P) (Delivered (LinkExit (atom (codes "runaway"))) (Kills (atom (codes "runaway")))))

-- ---- a link and a watch that come too late are reported as such: the link where exits are trapped

abbrev pub LateLinkIsTold : Type 0
LateLinkIsTold = EndsWith (asks (in_turn trap (ask_for kinds.Link (the (codes "C") ∷ [])))) (Turn P ∷ Turn P_1 ∷ Turn P ∷ Turn P ∷ Deliver P_1 P ∷ []) (event (Deliver P_1 P) (Delivered (LinkExit noproc) (Arrives (exit_message P_1 noproc))))

abbrev pub watch_it : Tree
watch_it = ask_for kinds.Monitor (the_atom (codes "process") ∷ the (codes "C") ∷ [])

abbrev pub LateWatchIsTold : Type 0
LateWatchIsTold = EndsWith (asks watch_it) (Turn P ∷ Turn P_1 ∷ Turn P ∷ Deliver P_1 P ∷ []) (event (Deliver P_1 P) (Delivered (Down second_ref noproc) (Arrives (down_message second_ref (process P_1) noproc))))

-- ---- a watch ends before its process does, or before its signal comes, or when its message is there

abbrev pub watches_with : Tree → ModuleTree
watches_with body = asks (with_result (codes "R") watch_it body)

abbrev pub unwatch : Tree
unwatch = ask_for kinds.Demonitor (the (codes "R") ∷ [])

abbrev pub UnwatchedIsNotTold : Type 0
UnwatchedIsNotTold = HasNoRun (watches_with (in_turn unwatch wait)) (Turn P ∷ Turn P ∷ Turn P ∷ Turn P_1 ∷ Deliver P_1 P ∷ [])

abbrev pub UnwatchedIsDropped : Type 0
UnwatchedIsDropped = EndsWith (watches_with unwatch) (Turn P ∷ Turn P ∷ Turn P_1 ∷ Turn P ∷ Deliver P_1 P ∷ []) (event (Deliver P_1 P) (Delivered (Down second_ref normal) IsDropped))

abbrev pub unwatch_with : List Tree → Tree
unwatch_with options = ask_for kinds.DemonitorWith (the (codes "R") ∷ the_list options ∷ [])

abbrev pub told_first : List Step
told_first = Turn P ∷ Turn P ∷ Turn P_1 ∷ Deliver P_1 P ∷ Turn P ∷ []

abbrev pub FlushTakesTheMessage : Type 0
FlushTakesTheMessage = Tells (λ h. mailbox h P) (watches_with (unwatch_with (the_atom (codes "flush") ∷ []))) told_first []

abbrev pub MessageStays : Type 0
MessageStays = Tells (λ h. mailbox h P) (watches_with (unwatch_with [])) told_first (down_message second_ref (process P_1) normal ∷ [])

-- ---- to oneself

abbrev pub SendsToItself : Type 0
SendsToItself = EndsWith (module_of (main (ask_for kinds.Send (me ∷ the_atom (codes "x") ∷ [])) ∷ [])) (Turn P ∷ []) (serves_it P kinds.Send (process P ∷ x ∷ []) x)

abbrev pub EndsByItsExit : Type 0
EndsByItsExit = EndsWith (module_of (main (ask_for kinds.Exit (me ∷ the_atom (codes "normal") ∷ [])) ∷ [])) (Turn P ∷ []) (event (Turn P) (EndedItself kinds.Exit (process P ∷ normal ∷ []) normal))

abbrev pub exits_itself : ModuleTree
exits_itself = module_of (main (in_turn trap (ask_for kinds.Exit (me ∷ the_atom (codes "x") ∷ []))) ∷ [])

abbrev pub TrapsItsExit : Type 0
TrapsItsExit = Tells (λ h. mailbox h P) exits_itself (Turn P ∷ Turn P ∷ []) (exit_message P x ∷ [])

abbrev pub ReferenceIsMade : Type 0
ReferenceIsMade = EndsWith (module_of (main (ask_for kinds.MakeRef []) ∷ [])) (Turn P ∷ []) (serves_it P kinds.MakeRef [] R_1)

-- ---- a process that had a name or a table before takes it from nobody at its end

abbrev pub passes_its_name : ModuleTree
passes_its_name =
    asks (in_turn (ask_for kinds.Register (the_atom (codes "n") ∷ the (codes "C") ∷ []))
    (in_turn (ask_for kinds.Unregister (the_atom (codes "n") ∷ [])) (in_turn me_as_n (ask_for kinds.Whereis (the_atom (codes "n") ∷ [])))))

abbrev pub FormerHolderFreesNoName : Type 0
FormerHolderFreesNoName = EndsWith passes_its_name (Turn P ∷ Turn P ∷ Turn P ∷ Turn P ∷ Turn P_1 ∷ Turn P ∷ []) (serves_it P kinds.Whereis (atom (codes "n") ∷ []) (process P))

abbrev pub hands_on : ModuleTree
hands_on = module_of (main (in_turn (new_table []) (with_result (codes "C") spawn_child (ask_for kinds.GiveAway (the_table ∷ the (codes "C") ∷ the_atom (codes "d") ∷ [])))) ∷ child (in_turn wait look_up) ∷ [])

abbrev pub FormerOwnerDestroysNoTable : Type 0
FormerOwnerDestroysNoTable = EndsWith hands_on (Turn P ∷ Turn P ∷ Turn P ∷ Turn P ∷ Deliver P P_2 ∷ Turn P_2 ∷ Turn P_2 ∷ []) (serves_it P_2 kinds.Lookup (t ∷ atom (codes "a") ∷ []) (list_of []))

-- ---- an heir that is set later counts

abbrev pub sets_heir : ModuleTree
sets_heir = module_of (main (with_result (codes "C") spawn_child (in_turn (new_table []) (ask_for kinds.SetOptions (the_table ∷ the_tuple (the_atom (codes "heir") ∷ the (codes "C") ∷ the_atom (codes "d") ∷ []) ∷ [])))) ∷ child wait ∷ [])

abbrev pub LaterHeirInherits : Type 0
LaterHeirInherits = Tells (λ h. owner h second_ref) sets_heir (Turn P ∷ Turn P ∷ Turn P ∷ Turn P ∷ []) (Some P_1)
