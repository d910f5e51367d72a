-- Small modules in which the order of two steps matters, and such in which it does not.
use Rattle.std.specs.Prelude.{◌++◌, true, false, List, [], ◌∷◌, pos, codes}
use Rattle.term_core.specs.Meaning.{Meaning}
use Rattle.term_core.specs.declared.step.Step.{Step}
use Rattle.term_core.specs.declared.step.Step.TheVariants.{Turn, Deliver}
use Rattle.core_tree.specs.Syntax.{ModuleTree, Tree}
use Rattle.core_calls.specs.declared.call.CallKind.TheVariants as kinds
use Rattle.core_calls.specs.declared.pure.PureCall.TheVariants as pures
use Rattle.world_model.specs.Cells.{Alive}
use Rattle.world_model.specs.Events.{event, Refused, Badarg, Delivered, Exit, IsIgnored, Arrives, Received, TimedOut}
use Rattle.world_model.specs.ExampleRuns.{P, P_1, P_2, R_1, t, a_1, serves_it, normal}
use Rattle.world_model.specs.Modules.{the, the_atom, the_number, the_tuple, the_list, the_table, ask_for, compute, in_turn, with_result, function, module_of, main, child, spawn_child, spawn_linked, new_table, put_one, look_up, receive, on, only}
use Rattle.world_model.specs.Names.{Name}
use Rattle.world_model.specs.Orders.{OrderMatters, Depend, AreFree, ReadsIt, Tells}
use Rattle.world_model.specs.ProcessExamples.{trap}
use Rattle.world_model.specs.ReceiveExamples.{hears, hurries, as_me, spawn_with, sends_its, sends_both}
use Rattle.world_model.specs.Signals.{exit_message}
use Rattle.world_model.specs.TableExamples.{gives, bequeaths}
use Rattle.world_model.specs.Terms.{atom, number, ok, truth, list_of, process, tuple}
use Rattle.world_model.specs.World.{mailbox}

-- ---- a process and its child go on with a public table

abbrev pub shares : Tree → Tree → ModuleTree
shares body other = module_of (main (in_turn (new_table (the_atom (codes "public") ∷ [])) (in_turn spawn_child body)) ∷ child other ∷ [])

abbrev pub both_begun : List Step
both_begun = Turn P ∷ Turn P ∷ []

abbrev pub one_of : Name → Tree
one_of text = the_tuple (the_atom text ∷ the_number (pos 1) ∷ [])

abbrev pub put_both : Tree
put_both = the_list (one_of (codes "b") ∷ one_of (codes "a") ∷ [])

abbrev pub a : Meaning
a = atom (codes "a")

abbrev pub b_1 : Meaning
b_1 = tuple (atom (codes "b") ∷ number 1 ∷ [])

-- a walk over the keys, and the number of objects, go by every row
abbrev pub FirstDependsOnInsert : Type 0
FirstDependsOnInsert = Depend (shares put_one (ask_for kinds.First (the_table ∷ []))) both_begun (Turn P) (Turn P_2)

abbrev pub ask_size : Tree
ask_size = ask_for kinds.Info (the_table ∷ the_atom (codes "size") ∷ [])

abbrev pub SizeDependsOnInsert : Type 0
SizeDependsOnInsert = Depend (shares put_one ask_size) both_begun (Turn P) (Turn P_2)

-- an insert of a list writes under each of its keys
abbrev pub LookupComesAfterList : Type 0
LookupComesAfterList = OrderMatters (shares (ask_for kinds.Insert (the_table ∷ put_both ∷ [])) look_up) both_begun (Turn P) (Turn P_2) (serves_it P_2 kinds.Lookup (t ∷ a ∷ []) (list_of [])) (serves_it P_2 kinds.Lookup (t ∷ a ∷ []) (list_of (a_1 ∷ [])))

-- and an insert_new of a list looks under each of them
abbrev pub put_both_new : Tree
put_both_new = ask_for kinds.InsertNew (the_table ∷ put_both ∷ [])

abbrev pub InsertNewComesAfterInsert : Type 0
InsertNewComesAfterInsert = OrderMatters (shares put_both_new put_one) both_begun (Turn P_2) (Turn P) (serves_it P kinds.InsertNew (t ∷ list_of (b_1 ∷ a_1 ∷ []) ∷ []) ok) (serves_it P kinds.InsertNew (t ∷ list_of (b_1 ∷ a_1 ∷ []) ∷ []) (truth false))

-- each row is one of all that are cleared
abbrev pub LookupComesAfterClear : Type 0
LookupComesAfterClear = OrderMatters (shares (in_turn put_one (ask_for kinds.DeleteAllObjects (the_table ∷ []))) look_up) (Turn P ∷ both_begun) (Turn P) (Turn P_2) (serves_it P_2 kinds.Lookup (t ∷ a ∷ []) (list_of (a_1 ∷ []))) (serves_it P_2 kinds.Lookup (t ∷ a ∷ []) (list_of []))

-- inserts under two keys are independent, and so are a lookup of one key and an insert under another
abbrev pub put_other : Tree
put_other = ask_for kinds.Insert (the_table ∷ one_of (codes "b") ∷ [])

abbrev pub TwoKeysAreFree : Type 0
TwoKeysAreFree = AreFree (shares put_one put_other) both_begun (Turn P) (Turn P_2)

abbrev pub OtherKeyIsFree : Type 0
OtherKeyIsFree = AreFree (shares put_other look_up) both_begun (Turn P) (Turn P_2)

-- ---- a table is asked about by its reference, and deleted

abbrev pub deletes : ModuleTree
deletes = module_of (main (with_result (codes "T") (ask_for kinds.New (the_table ∷ the_list [] ∷ [])) (in_turn (ask_for kinds.Spawn (the_atom (codes "m") ∷ the_atom (codes "c") ∷ the_list (the (codes "T") ∷ []) ∷ [])) (ask_for kinds.DeleteTable (the (codes "T") ∷ [])))) ∷ function (codes "c") (codes "T" ∷ []) (ask_for kinds.Info (the (codes "T") ∷ the_atom (codes "owner") ∷ [])) ∷ [])

abbrev pub InfoComesAfterDelete : Type 0
InfoComesAfterDelete = OrderMatters deletes both_begun (Turn P) (Turn P_2) (serves_it P_2 kinds.Info (R_1 ∷ atom (codes "owner") ∷ []) (process P)) (serves_it P_2 kinds.Info (R_1 ∷ atom (codes "owner") ∷ []) (atom (codes "undefined")))

-- ---- whether others live: an end looks at its heirs, and a gift at its target, whatever comes of it

abbrev pub EndReadsItsHeir : Type 0
EndReadsItsHeir = ReadsIt bequeaths (Turn P ∷ Turn P ∷ Turn P ∷ []) (Turn P) (Alive P_1)

abbrev pub EndReadsItsDeadHeir : Type 0
EndReadsItsDeadHeir = ReadsIt bequeaths (Turn P ∷ Turn P ∷ Turn P ∷ Turn P_1 ∷ Turn P_1 ∷ []) (Turn P) (Alive P_1)

abbrev pub GiftReadsItsTarget : Type 0
GiftReadsItsTarget = ReadsIt gives both_begun (Turn P) (Alive P_2)

-- `is_process_alive/1` and a send depend on the end of the other
abbrev pub asks : Tree → ModuleTree
asks body = module_of (main (with_result (codes "C") spawn_child body) ∷ child (the_atom (codes "x")) ∷ [])

abbrev pub AliveComesAfterEnd : Type 0
AliveComesAfterEnd = OrderMatters (asks (ask_for kinds.IsProcessAlive (the (codes "C") ∷ []))) (Turn P ∷ []) (Turn P_1) (Turn P) (serves_it P kinds.IsProcessAlive (process P_1 ∷ []) (truth true)) (serves_it P kinds.IsProcessAlive (process P_1 ∷ []) (truth false))

abbrev pub SendDependsOnEnd : Type 0
SendDependsOnEnd = Depend (asks (ask_for kinds.Bang (the (codes "C") ∷ the_atom (codes "x") ∷ []))) (Turn P ∷ []) (Turn P_1) (Turn P)

-- ---- an exit signal with reason 'normal' reaches a process that may trap exits

abbrev pub exits : ModuleTree
exits = module_of (main (with_result (codes "C") spawn_child (ask_for kinds.Exit (the (codes "C") ∷ the_atom (codes "normal") ∷ []))) ∷ child trap ∷ [])

abbrev pub ExitComesAfterFlag : Type 0
ExitComesAfterFlag = OrderMatters exits both_begun (Turn P_1) (Deliver P P_1) (event (Deliver P P_1) (Delivered (Exit normal) IsIgnored)) (event (Deliver P P_1) (Delivered (Exit normal) (Arrives (exit_message P normal))))

-- ---- the signal of a link asks whether its receiver traps exits, except where the link is gone: then it is dropped

abbrev pub links : Tree → ModuleTree
links body = module_of (main (with_result (codes "C") spawn_linked body) ∷ child (the_atom (codes "x")) ∷ [])

abbrev pub LinkReadsFlag : Type 0
LinkReadsFlag = Depend (links trap) (Turn P ∷ Turn P_1 ∷ []) (Turn P) (Deliver P_1 P)

abbrev pub unlinks : ModuleTree
unlinks = links (in_turn (ask_for kinds.Unlink (the (codes "C") ∷ [])) trap)

abbrev pub DroppedReadsNoFlag : Type 0
DroppedReadsNoFlag = AreFree unlinks (Turn P ∷ Turn P_1 ∷ Turn P ∷ []) (Turn P) (Deliver P_1 P)

-- ---- two deliveries into one mailbox: the messages lie in it as they came

abbrev pub both_sent : List Step
both_sent = Turn P ∷ Turn P ∷ Turn P_1 ∷ Turn P_2 ∷ []

abbrev pub DeliveriesDepend : Type 0
DeliveriesDepend = Depend hears both_sent (Deliver P_1 P) (Deliver P_2 P)

abbrev pub FirstLiesFirst : Type 0
FirstLiesFirst = Tells (λ h. mailbox h P) hears (Turn P ∷ Turn P ∷ Turn P_1 ∷ Turn P_2 ∷ Deliver P_1 P ∷ Deliver P_2 P ∷ []) (a ∷ atom (codes "b") ∷ [])

abbrev pub SecondLiesFirst : Type 0
SecondLiesFirst = Tells (λ h. mailbox h P) hears (Turn P ∷ Turn P ∷ Turn P_1 ∷ Turn P_2 ∷ Deliver P_2 P ∷ Deliver P_1 P ∷ []) (atom (codes "b") ∷ a ∷ [])

-- but the sends of the two are independent
abbrev pub SendsAreFree : Type 0
SendsAreFree = AreFree hears both_begun (Turn P_1) (Turn P_2)

-- ---- a message that is there, and one that comes after it

-- the receive that takes the first does not depend on the delivery of the second
abbrev pub ReceiveIsFree : Type 0
ReceiveIsFree = AreFree hears (both_sent ++ (Deliver P_1 P ∷ [])) (Turn P) (Deliver P_2 P)

-- a receive that finds no message does: it reaches its timeout, or takes what comes
abbrev pub ReceiveComesAfterDelivery : Type 0
ReceiveComesAfterDelivery = OrderMatters hurries (Turn P ∷ Turn P_1 ∷ []) (Deliver P_1 P) (Turn P) (event (Turn P) TimedOut) (event (Turn P) (Received (atom (codes "x"))))

-- a child sends 'a', then 'b'; with 'a' there, its parent takes this message, or reaches its timeout
abbrev pub wants : Name → ModuleTree
wants text = module_of (main (as_me (in_turn (spawn_with []) (receive (on (only text) (the_atom (codes "x")) ∷ []) (the_number (pos 0)) (the_atom (codes "x"))))) ∷ sends_both ∷ [])

abbrev pub first_is_there : List Step
first_is_there = Turn P ∷ Turn P_1 ∷ Turn P_1 ∷ Deliver P_1 P ∷ []

abbrev pub ReceiveTakesWhatComes : Type 0
ReceiveTakesWhatComes = OrderMatters (wants (codes "b")) first_is_there (Deliver P_1 P) (Turn P) (event (Turn P) TimedOut) (event (Turn P) (Received (atom (codes "b"))))

-- also where it selects neither
abbrev pub ReceiveOfNeitherDepends : Type 0
ReceiveOfNeitherDepends = Depend (wants (codes "c")) first_is_there (Turn P) (Deliver P_1 P)

-- so it is with a flush: a child sends, and its parent flushes, with the message of a watch in its mailbox or with none
abbrev pub flushes_after : Tree → ModuleTree
flushes_after before = module_of (main (as_me (in_turn (spawn_with (the_atom (codes "a") ∷ [])) (with_result (codes "R") (ask_for kinds.MakeRef []) (in_turn before (ask_for kinds.DemonitorWith (the (codes "R") ∷ the_list (the_atom (codes "flush") ∷ []) ∷ [])))))) ∷ sends_its ∷ [])

abbrev pub down_to_me : Tree
down_to_me = ask_for kinds.Bang (the (codes "Me") ∷ the_tuple (the (codes "R") ∷ the (codes "R") ∷ the (codes "R") ∷ the (codes "R") ∷ the (codes "R") ∷ []) ∷ [])

abbrev pub all_but_flush : List Step
all_but_flush = Turn P ∷ Turn P ∷ Turn P ∷ Turn P_1 ∷ []

abbrev pub FlushIsFree : Type 0
FlushIsFree = AreFree (flushes_after down_to_me) all_but_flush (Turn P) (Deliver P_1 P)

abbrev pub FlushTakesItsMessage : Type 0
FlushTakesItsMessage = Tells (λ h. mailbox h P) (flushes_after down_to_me) (all_but_flush ++ (Deliver P_1 P ∷ Turn P ∷ [])) (a ∷ [])

abbrev pub FlushDependsOnDelivery : Type 0
FlushDependsOnDelivery = Depend (flushes_after (ask_for kinds.MakeRef [])) all_but_flush (Turn P) (Deliver P_1 P)

-- ---- a name: a process that is refused it reads which process has it

abbrev pub me_as_n : Tree
me_as_n = ask_for kinds.Register (the_atom (codes "n") ∷ compute pures.OwnPid [] ∷ [])

abbrev pub renames : ModuleTree
renames = module_of (main (in_turn me_as_n (in_turn spawn_child (ask_for kinds.Unregister (the_atom (codes "n") ∷ [])))) ∷ child me_as_n ∷ [])

abbrev pub RegisterComesAfterUnregister : Type 0
RegisterComesAfterUnregister = OrderMatters renames both_begun (Turn P) (Turn P_2) (event (Turn P_2) (Refused kinds.Register (atom (codes "n") ∷ process P_2 ∷ []) Badarg)) (serves_it P_2 kinds.Register (atom (codes "n") ∷ process P_2 ∷ []) ok)
