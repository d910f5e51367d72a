-- Small modules with tables, and what happens by their schedules.
use Rattle.std.specs.Prelude.{◌∷◌, [], codes, pos, Some, None}
use Rattle.term_core.specs.Meaning.{Meaning}
use Rattle.term_core.specs.declared.step.Step.TheVariants.{Turn, Deliver}
use Rattle.core_tree.specs.Expression as trees
use Rattle.core_tree.specs.Syntax.{ModuleTree, Tree}
use Rattle.core_calls.specs.declared.call.CallKind.TheVariants as kinds
use Rattle.core_calls.specs.declared.pure.PureCall.TheVariants as pures
use Rattle.world_model.specs.Events.{event, Delivered, Message, Arrives, Received, TimedOut}
use Rattle.world_model.specs.ExampleRuns.{t, P, Happens, made_it, serves_it, a_1, ends_it, normal, HasNoRun, EndsWith, P_2, refuses_it, error_of, spawned, P_1, P_3}
use Rattle.world_model.specs.Modules.{the, module_of, main, in_turn, new_table, put_one, look_up, spawn_child, child, with_result, ask_for, the_table, the_atom, the_tuple, the_list, the_number, function, mention, compute, on, any, receive, wait}
use Rattle.world_model.specs.Signals.{transfer_message}
use Rattle.world_model.specs.Terms.{ok, atom, list_of, process, tuple}
use Rattle.world_model.specs.declared.rule.Rule.TheVariants.{ProtectedWrite, NoTable, PrivateRead, PrivateWrite, ShortObject, NotOwner, BadItem, OwnTarget}

-- ---- a table is made, written and read by its owner

abbrev pub writes : ModuleTree
writes = module_of (main (in_turn (new_table []) (in_turn put_one look_up)) ∷ [])

abbrev pub WritesItsTable : Type 0
WritesItsTable = Happens writes (Turn P ∷ Turn P ∷ Turn P ∷ Turn P ∷ []) (
    made_it
    ∷ serves_it P kinds.Insert (t ∷ a_1 ∷ []) ok
    ∷ serves_it P kinds.Lookup (t ∷ atom (codes "a") ∷ []) (list_of (a_1 ∷ []))
    ∷ ends_it P normal
    ∷ [])

-- a process that is not there has no turn
abbrev pub HasNoNinth : Type 0
HasNoNinth = HasNoRun writes (Turn P ∷ Turn (9 ∷ []) ∷ [])

-- ---- another process writes a protected table: it is refused, by the owner's protection while that lives, and as there is no table once it ended

abbrev pub stranger : ModuleTree
stranger = module_of (main (in_turn (new_table []) spawn_child) ∷ child put_one ∷ [])

abbrev pub StrangerIsRefused : Type 0
StrangerIsRefused = EndsWith stranger (Turn P ∷ Turn P ∷ Turn P_2 ∷ []) (refuses_it P_2 kinds.Insert (t ∷ a_1 ∷ []) ProtectedWrite (Some P))

abbrev pub StrangerFindsNone : Type 0
StrangerFindsNone = EndsWith stranger (Turn P ∷ Turn P ∷ Turn P ∷ Turn P_2 ∷ []) (refuses_it P_2 kinds.Insert (t ∷ a_1 ∷ []) NoTable None)

abbrev pub StrangerEnds : Type 0
StrangerEnds = EndsWith stranger (Turn P ∷ Turn P ∷ Turn P_2 ∷ Turn P_2 ∷ []) (ends_it P_2 (error_of (codes "badarg")))

-- ---- a table is given away: its old owner no longer writes it

abbrev pub gives : ModuleTree
gives = module_of (main (in_turn (new_table []) (with_result (codes "C") spawn_child (in_turn (ask_for kinds.GiveAway (the_table ∷ the (codes "C") ∷ the_atom (codes "d") ∷ [])) put_one))) ∷ child wait ∷ [])

abbrev pub gift : Meaning
gift = transfer_message t P (atom (codes "d"))

abbrev pub OldOwnerIsRefused : Type 0
OldOwnerIsRefused = Happens gives (Turn P ∷ Turn P ∷ Turn P ∷ Turn P ∷ Deliver P P_2 ∷ Turn P_2 ∷ []) (
    made_it
    ∷ serves_it P kinds.Spawn (spawned (codes "c") []) (process P_2)
    ∷ serves_it P kinds.GiveAway (t ∷ process P_2 ∷ atom (codes "d") ∷ []) ok
    ∷ refuses_it P kinds.Insert (t ∷ a_1 ∷ []) ProtectedWrite (Some P_2)
    ∷ event (Deliver P P_2) (Delivered (Message gift) (Arrives gift))
    ∷ event (Turn P_2) (Received gift)
    ∷ [])

-- ---- an end passes its table to an heir that lives, and destroys it else

abbrev pub bequeaths : ModuleTree
bequeaths = module_of (main (with_result (codes "C") spawn_child (in_turn (new_table (the_tuple (the_atom (codes "heir") ∷ the (codes "C") ∷ the_atom (codes "d") ∷ []) ∷ [])) (ask_for kinds.Spawn (the_atom (codes "m") ∷ the_atom (codes "d") ∷ the_list [] ∷ [])))) ∷ child (receive (on (any (codes "X")) put_one ∷ []) (the_number (pos 0)) (the_atom (codes "gone"))) ∷ function (codes "d") [] look_up ∷ [])

abbrev pub HeirIsTold : Type 0
HeirIsTold = EndsWith bequeaths (Turn P ∷ Turn P ∷ Turn P ∷ Turn P ∷ Deliver P P_1 ∷ []) (event (Deliver P P_1) (Delivered (Message gift) (Arrives gift)))

abbrev pub HeirWrites : Type 0
HeirWrites = EndsWith bequeaths (Turn P ∷ Turn P ∷ Turn P ∷ Turn P ∷ Deliver P P_1 ∷ Turn P_1 ∷ Turn P_1 ∷ Turn P_3 ∷ []) (serves_it P_3 kinds.Lookup (t ∷ atom (codes "a") ∷ []) (list_of (a_1 ∷ [])))

abbrev pub HeirTimesOut : Type 0
HeirTimesOut = EndsWith bequeaths (Turn P ∷ Turn P ∷ Turn P ∷ Turn P_1 ∷ []) (event (Turn P_1) TimedOut)

abbrev pub NoHeirNoTable : Type 0
NoHeirNoTable = EndsWith bequeaths (Turn P ∷ Turn P ∷ Turn P ∷ Turn P_1 ∷ Turn P_1 ∷ Turn P ∷ Turn P_3 ∷ []) (refuses_it P_3 kinds.Lookup (t ∷ atom (codes "a") ∷ []) NoTable None)

-- ---- a name that is free again may mean the table of another

abbrev pub renames : ModuleTree
renames = module_of (main (in_turn (new_table []) (in_turn (ask_for kinds.DeleteTable (the_table ∷ [])) (in_turn spawn_child put_one))) ∷ child (in_turn (new_table []) wait) ∷ [])

abbrev pub PresentOwnerCounts : Type 0
PresentOwnerCounts = EndsWith renames (Turn P ∷ Turn P ∷ Turn P ∷ Turn P_3 ∷ Turn P ∷ []) (refuses_it P kinds.Insert (t ∷ a_1 ∷ []) ProtectedWrite (Some P_3))

-- ---- protections come before arguments, and arguments before their objects

abbrev pub hides : Tree → ModuleTree
hides body = module_of (main (in_turn (new_table (the_atom (codes "private") ∷ [])) spawn_child) ∷ child body ∷ [])

abbrev pub PrivateIsUnread : Type 0
PrivateIsUnread = EndsWith (hides (trees.Try 0 look_up (mention (codes "X") ∷ []) (the (codes "X")) (mention (codes "K") ∷ mention (codes "R") ∷ []) (the_atom (codes "none")))) (Turn P ∷ Turn P ∷ Turn P_2 ∷ []) (refuses_it P_2 kinds.Lookup (t ∷ atom (codes "a") ∷ []) PrivateRead (Some P))

abbrev pub put_short : Tree
put_short = ask_for kinds.Insert (the_table ∷ the_tuple [] ∷ [])

abbrev pub StrangerBeforeObject : Type 0
StrangerBeforeObject = EndsWith (hides put_short) (Turn P ∷ Turn P ∷ Turn P_2 ∷ []) (refuses_it P_2 kinds.Insert (t ∷ tuple [] ∷ []) PrivateWrite (Some P))

abbrev pub OwnerOfShort : Type 0
OwnerOfShort = EndsWith (module_of (main (in_turn (new_table []) put_short) ∷ [])) (Turn P ∷ Turn P ∷ []) (refuses_it P kinds.Insert (t ∷ tuple [] ∷ []) ShortObject (Some P))

abbrev pub to_no_heir : Tree
to_no_heir = ask_for kinds.SetOptions (the_table ∷ the_tuple (the_atom (codes "heir") ∷ the_atom (codes "none") ∷ []) ∷ [])

abbrev pub OwnersCall : Type 0
OwnersCall = EndsWith (hides to_no_heir) (Turn P ∷ Turn P ∷ Turn P_2 ∷ []) (refuses_it P_2 kinds.SetOptions (t ∷ tuple (atom (codes "heir") ∷ atom (codes "none") ∷ []) ∷ []) NotOwner (Some P))

abbrev pub ask_x : Tree
ask_x = ask_for kinds.Info (the_table ∷ the_atom (codes "x") ∷ [])

abbrev pub InfoOfNone : Type 0
InfoOfNone = EndsWith (module_of (main ask_x ∷ [])) (Turn P ∷ []) (serves_it P kinds.Info (t ∷ atom (codes "x") ∷ []) (atom (codes "undefined")))

abbrev pub AllItemsOfNone : Type 0
AllItemsOfNone = EndsWith (module_of (main (ask_for kinds.InfoAll (the_table ∷ [])) ∷ [])) (Turn P ∷ []) (serves_it P kinds.InfoAll (t ∷ []) (atom (codes "undefined")))

abbrev pub ItemIsUnknown : Type 0
ItemIsUnknown = EndsWith (module_of (main (in_turn (new_table []) ask_x) ∷ [])) (Turn P ∷ Turn P ∷ []) (refuses_it P kinds.Info (t ∷ atom (codes "x") ∷ []) BadItem (Some P))

abbrev pub GiftToItself : Type 0
GiftToItself = EndsWith (module_of (main (in_turn (new_table []) (ask_for kinds.GiveAway (the_table ∷ compute pures.OwnPid [] ∷ the_atom (codes "d") ∷ []))) ∷ [])) (Turn P ∷ Turn P ∷ []) (refuses_it P kinds.GiveAway (t ∷ process P ∷ atom (codes "d") ∷ []) OwnTarget (Some P))
