-- Aliases and timers, and what comes too late, in small modules (Erlang manual, `alias/1`, `monitor/3`, `start_timer/3`).
use Rattle.std.specs.Prelude.{◌∷◌, List, [], codes, pos, true, false}
use Rattle.term_core.specs.declared.step.Step.{Step}
use Rattle.term_core.specs.declared.step.Step.TheVariants.{Turn, Deliver}
use Rattle.core_tree.specs.Syntax.{ModuleTree, Tree}
use Rattle.core_calls.specs.declared.call.CallKind.TheVariants as kinds
use Rattle.world_model.specs.BondExamples.{me, second_ref, x}
use Rattle.world_model.specs.Events.{Event, event, Fate, Delivered, Guarded, Elapsed, Arrives, IsDropped}
use Rattle.world_model.specs.ExampleRuns.{P, P_1, R_1, EndsWith, HasNoRun, serves_it}
use Rattle.world_model.specs.Modules.{the, the_atom, the_number, the_tuple, the_list, ask_for, in_turn, with_result, module_of, main, child, spawn_child, wait}
use Rattle.world_model.specs.Names.{Name, Ref}
use Rattle.world_model.specs.Orders.{Tells}
use Rattle.world_model.specs.ProcessLines.{timer_message}
use Rattle.world_model.specs.Terms.{truth, number}
use Rattle.world_model.specs.World.{mailbox}

abbrev pub first_ref : Ref
first_ref = record { pid = []; number = 1 }

abbrev pub send_x : Name → Tree
send_x name = ask_for kinds.Bang (the name ∷ the_atom (codes "x") ∷ [])

-- ---- a child is watched with an alias, is told of it, and answers by it

abbrev pub watch_so : Name → Tree
watch_so how = ask_for kinds.MonitorWith (the_atom (codes "process") ∷ the (codes "C") ∷ the_list (the_tuple (the_atom (codes "alias") ∷ the_atom how ∷ []) ∷ []) ∷ [])

abbrev pub asks_by : Name → Tree → ModuleTree
asks_by how body =
    module_of (main (with_result (codes "C") spawn_child (with_result (codes "R") (watch_so how) (in_turn (ask_for kinds.Bang (the (codes "C") ∷ the (codes "R") ∷ [])) body)))
    ∷ child (with_result (codes "A") wait (in_turn (send_x (codes "A")) (send_x (codes "A")))) ∷ [])

-- the child has sent its first answer
abbrev pub answered : List Step → List Step
answered steps = Turn P ∷ Turn P ∷ Turn P ∷ Deliver P P_1 ∷ Turn P_1 ∷ Turn P_1 ∷ steps

abbrev pub answer_comes : Fate → Event
answer_comes fate = event (Deliver P_1 P) (Delivered (Guarded second_ref x) fate)

abbrev pub end_watch : Tree
end_watch = ask_for kinds.Demonitor (the (codes "R") ∷ [])

abbrev pub AnswerIsLetIn : Type 0
AnswerIsLetIn = EndsWith (asks_by (codes "demonitor") wait) (answered (Deliver P_1 P ∷ [])) (answer_comes (Arrives x))

abbrev pub LateAnswerIsDropped : Type 0
LateAnswerIsDropped = EndsWith (asks_by (codes "demonitor") end_watch) (answered (Turn P ∷ Deliver P_1 P ∷ [])) (answer_comes IsDropped)

-- an alias that ends by `unalias/1` alone outlives its watch
abbrev pub ExplicitAliasStays : Type 0
ExplicitAliasStays = EndsWith (asks_by (codes "explicit_unalias") end_watch) (answered (Turn P ∷ Deliver P_1 P ∷ [])) (answer_comes (Arrives x))

abbrev pub UnaliasedIsDropped : Type 0
UnaliasedIsDropped = EndsWith (asks_by (codes "explicit_unalias") (ask_for kinds.Unalias (the (codes "R") ∷ []))) (answered (Turn P ∷ Deliver P_1 P ∷ [])) (answer_comes IsDropped)

-- of two answers one comes through an alias that a reply ends, and its watch goes too
abbrev pub both_answered : List Step
both_answered = answered (Turn P_1 ∷ Deliver P_1 P ∷ Deliver P_1 P ∷ [])

abbrev pub SecondReplyIsDropped : Type 0
SecondReplyIsDropped = EndsWith (asks_by (codes "reply_demonitor") wait) both_answered (answer_comes IsDropped)

abbrev pub BothAreLetIn : Type 0
BothAreLetIn = Tells (λ h. mailbox h P) (asks_by (codes "demonitor") wait) both_answered (x ∷ x ∷ [])

abbrev pub ReplyEndsTheWatch : Type 0
ReplyEndsTheWatch = HasNoRun (asks_by (codes "reply_demonitor") wait) (answered (Turn P_1 ∷ Deliver P_1 P ∷ Deliver P_1 P ∷ Turn P_1 ∷ Deliver P_1 P ∷ Deliver P_1 P ∷ []))

-- ---- a reference that is no alias lets nothing in

abbrev pub NoAliasTakesNothing : Type 0
NoAliasTakesNothing = Tells (λ h. mailbox h P) (module_of (main (with_result (codes "R") (ask_for kinds.MakeRef []) (send_x (codes "R"))) ∷ [])) (Turn P ∷ Turn P ∷ []) []

-- ---- a message by an alias of one's own is on its way too

abbrev pub sends_itself : Tree → ModuleTree
sends_itself body = module_of (main (with_result (codes "R") (ask_for kinds.Alias []) (in_turn (send_x (codes "R")) body)) ∷ [])

abbrev pub itself_comes : Fate → Event
itself_comes fate = event (Deliver P P) (Delivered (Guarded first_ref x) fate)

abbrev pub OwnAliasTakesIt : Type 0
OwnAliasTakesIt = EndsWith (sends_itself wait) (Turn P ∷ Turn P ∷ Deliver P P ∷ []) (itself_comes (Arrives x))

abbrev pub OwnAliasMayEndBefore : Type 0
OwnAliasMayEndBefore = EndsWith (sends_itself (in_turn (ask_for kinds.Unalias (the (codes "R") ∷ [])) wait)) (Turn P ∷ Turn P ∷ Turn P ∷ Deliver P P ∷ []) (itself_comes IsDropped)

-- with a watch of oneself no alias begins
abbrev pub OwnWatchHasNoAlias : Type 0
OwnWatchHasNoAlias =
    HasNoRun
    (module_of (main (with_result (codes "R") (ask_for kinds.MonitorWith (the_atom (codes "process") ∷ me ∷ the_list (the_tuple (the_atom (codes "alias") ∷ the_atom (codes "explicit_unalias") ∷ []) ∷ []) ∷ [])) (in_turn (send_x (codes "R")) wait)) ∷ []))
    (Turn P ∷ Turn P ∷ Deliver P P ∷ [])

-- ---- a timer, whose message comes from a sender of its own

abbrev pub starts_timer : Tree → ModuleTree
starts_timer body = module_of (main (with_result (codes "R") (ask_for kinds.StartTimer (the_number (pos 5) ∷ me ∷ the_atom (codes "x") ∷ [])) body) ∷ [])

abbrev pub cancel : Tree
cancel = ask_for kinds.CancelTimer (the (codes "R") ∷ [])

abbrev pub timer_comes : Fate → Event
timer_comes fate = event (Deliver P_1 P) (Delivered (Elapsed first_ref (timer_message true first_ref x)) fate)

abbrev pub TimerComes : Type 0
TimerComes = EndsWith (starts_timer wait) (Turn P ∷ Deliver P_1 P ∷ []) (timer_comes (Arrives (timer_message true first_ref x)))

abbrev pub CancelledIsDropped : Type 0
CancelledIsDropped = EndsWith (starts_timer (in_turn cancel wait)) (Turn P ∷ Turn P ∷ Deliver P_1 P ∷ []) (timer_comes IsDropped)

abbrev pub CancelTellsTheTime : Type 0
CancelTellsTheTime = EndsWith (starts_timer cancel) (Turn P ∷ Turn P ∷ []) (serves_it P kinds.CancelTimer (R_1 ∷ []) (number 5))

abbrev pub LateCancelIsFalse : Type 0
LateCancelIsFalse = EndsWith (starts_timer cancel) (Turn P ∷ Deliver P_1 P ∷ Turn P ∷ []) (serves_it P kinds.CancelTimer (R_1 ∷ []) (truth false))

-- reading it leaves it
abbrev pub ReadTellsTheTime : Type 0
ReadTellsTheTime = EndsWith (starts_timer (in_turn (ask_for kinds.ReadTimer (the (codes "R") ∷ [])) (ask_for kinds.ReadTimer (the (codes "R") ∷ [])))) (Turn P ∷ Turn P ∷ Turn P ∷ []) (serves_it P kinds.ReadTimer (R_1 ∷ []) (number 5))
