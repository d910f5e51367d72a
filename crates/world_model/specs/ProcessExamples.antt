-- Small modules with several processes, and what happens by their schedules.
use Rattle.std.specs.Prelude.{◌∷◌, codes, [], false}
use Rattle.term_core.specs.Meaning.{Meaning}
use Rattle.term_core.specs.declared.step.Step.TheVariants.{Turn, Deliver}
use Rattle.core_tree.specs.Syntax.{ModuleTree, Tree}
use Rattle.core_calls.specs.declared.call.CallKind.TheVariants as kinds
use Rattle.core_calls.specs.declared.pure.PureCall.TheVariants as pures
use Rattle.world_model.specs.Events.{Exit, event, Delivered, Arrives, Kills, LinkExit, Down, Received, Refused, NoProcess}
use Rattle.world_model.specs.ExampleRuns.{P, Happens, P_2, serves_it, spawned, P_1, EndsWith, ends_it, error_of, R_1, normal, HasNoRun}
use Rattle.world_model.specs.Modules.{the, ask_for, the_atom, child, the_list, module_of, main, with_result, compute, in_turn, spawn_child, spawn_linked, wait}
use Rattle.world_model.specs.Names.{Ref}
use Rattle.world_model.specs.Signals.{exit_message, down_message}
use Rattle.world_model.specs.Terms.{process, atom, tuple, ok, truth}

abbrev pub to_kill : Tree
to_kill = ask_for kinds.Exit (the (codes "C") ∷ the_atom (codes "kill") ∷ [])

abbrev pub trap : Tree
trap = ask_for kinds.ProcessFlag (the_atom (codes "trap_exit") ∷ the_atom (codes "true") ∷ [])

abbrev pub kill : Meaning
kill = atom (codes "kill")

-- what is no function ends at once
abbrev pub UndefinedEnds : Type 0
UndefinedEnds = EndsWith (module_of (main (ask_for kinds.Spawn (the_atom (codes "m") ∷ the_atom (codes "d") ∷ the_list [] ∷ [])) ∷ [])) (Turn P ∷ Turn P_1 ∷ []) (ends_it P_1 (error_of (codes "undef")))

-- ---- 'kill' also ends a process that traps exits; the reason 'kill' of a linked process does not

abbrev pub kills : ModuleTree
kills = module_of (main (with_result (codes "C") spawn_child to_kill) ∷ child (in_turn trap wait) ∷ [])

abbrev pub KillEnds : Type 0
KillEnds = EndsWith kills (Turn P ∷ Turn P_1 ∷ Turn P ∷ Deliver P P_1 ∷ []) (event (Deliver P P_1) (Delivered (Exit kill) (Kills (atom (codes "killed")))))

abbrev pub linked_kill : ModuleTree
linked_kill = module_of (main (in_turn trap (in_turn spawn_linked wait)) ∷ child (compute pures.Exit (the_atom (codes "kill") ∷ [])) ∷ [])

abbrev pub KillIsTold : Type 0
KillIsTold = Happens linked_kill (Turn P ∷ Turn P ∷ Turn P_2 ∷ Deliver P_2 P ∷ Turn P ∷ []) (
    serves_it P kinds.ProcessFlag (atom (codes "trap_exit") ∷ ok ∷ []) (truth false)
    ∷ serves_it P kinds.SpawnLink (spawned (codes "c") []) (process P_2)
    ∷ ends_it P_2 kill
    ∷ event (Deliver P_2 P) (Delivered (LinkExit kill) (Arrives (exit_message P_2 kill)))
    ∷ event (Turn P) (Received (exit_message P_2 kill))
    ∷ [])

-- ---- a watched process ends

abbrev pub watches : ModuleTree
watches = module_of (main (in_turn (ask_for kinds.SpawnMonitor (the_atom (codes "m") ∷ the_atom (codes "c") ∷ the_list [] ∷ [])) wait) ∷ child (the_atom (codes "x")) ∷ [])

abbrev pub first_ref : Ref
first_ref = record { pid = []; number = 1 }

abbrev pub EndIsTold : Type 0
EndIsTold = Happens watches (Turn P ∷ Turn P_1 ∷ Deliver P_1 P ∷ Turn P ∷ []) (
    serves_it P kinds.SpawnMonitor (spawned (codes "c") []) (tuple (process P_1 ∷ R_1 ∷ []))
    ∷ ends_it P_1 normal
    ∷ event (Deliver P_1 P) (Delivered (Down first_ref normal) (Arrives (down_message first_ref (process P_1) normal)))
    ∷ event (Turn P) (Received (down_message first_ref (process P_1) normal))
    ∷ [])

-- ---- a name, and a message to its holder, which is the sender

abbrev pub names_itself : ModuleTree
names_itself = module_of (main (in_turn (ask_for kinds.Register (the_atom (codes "n") ∷ compute pures.OwnPid [] ∷ [])) (in_turn (ask_for kinds.Bang (the_atom (codes "n") ∷ the_atom (codes "x") ∷ [])) wait)) ∷ [])

abbrev pub NameIsServed : Type 0
NameIsServed = Happens names_itself (Turn P ∷ Turn P ∷ Turn P ∷ []) (
    serves_it P kinds.Register (atom (codes "n") ∷ process P ∷ []) ok
    ∷ serves_it P kinds.Bang (atom (codes "n") ∷ atom (codes "x") ∷ []) (atom (codes "x"))
    ∷ event (Turn P) (Received (atom (codes "x")))
    ∷ [])

-- ---- a link to one that is gone raises 'noproc' where exits are not trapped

abbrev pub links_late : ModuleTree
links_late = module_of (main (with_result (codes "C") spawn_child (ask_for kinds.Link (the (codes "C") ∷ []))) ∷ child (the_atom (codes "x")) ∷ [])

abbrev pub LateLinkFails : Type 0
LateLinkFails = EndsWith links_late (Turn P ∷ Turn P_1 ∷ Turn P ∷ []) (event (Turn P) (Refused kinds.Link (process P_1 ∷ []) NoProcess))

abbrev pub LateLinkEnds : Type 0
LateLinkEnds = EndsWith links_late (Turn P ∷ Turn P_1 ∷ Turn P ∷ Turn P ∷ []) (ends_it P (error_of (codes "noproc")))

-- ---- whether a process lives is answered once one's own signals to it have arrived

abbrev pub asks_after : ModuleTree
asks_after = module_of (main (with_result (codes "C") spawn_child (in_turn to_kill (ask_for kinds.IsProcessAlive (the (codes "C") ∷ [])))) ∷ child wait ∷ [])

abbrev pub ItWaits : Type 0
ItWaits = HasNoRun asks_after (Turn P ∷ Turn P ∷ Turn P ∷ [])

abbrev pub ItIsKilled : Type 0
ItIsKilled = EndsWith asks_after (Turn P ∷ Turn P ∷ Deliver P P_1 ∷ []) (event (Deliver P P_1) (Delivered (Exit kill) (Kills (atom (codes "killed")))))

abbrev pub ThenItIsGone : Type 0
ThenItIsGone = EndsWith asks_after (Turn P ∷ Turn P ∷ Deliver P P_1 ∷ Turn P ∷ []) (serves_it P kinds.IsProcessAlive (process P_1 ∷ []) (truth false))
