-- Small modules that receive, and what happens by their schedules.
use Rattle.std.specs.Prelude.{◌++◌, pos, List, [], ◌∷◌, codes}
use Rattle.term_core.specs.Meaning.{Meaning}
use Rattle.term_core.specs.declared.step.Step.{Step}
use Rattle.term_core.specs.declared.step.Step.TheVariants.{Turn, Deliver}
use Rattle.core_tree.specs.Syntax.{DefinitionTree, ModuleTree, Tree}
use Rattle.core_calls.specs.declared.call.CallKind.TheVariants as kinds
use Rattle.core_calls.specs.declared.pure.PureCall.TheVariants as pures
use Rattle.world_model.specs.Events.{event, Received, TimedOut, Delivered, Message, Arrives}
use Rattle.world_model.specs.ExampleRuns.{P, P_1, P_2, EndsWith, Happens, HasNoRun, ends_it, error_of, serves_it, spawned}
use Rattle.world_model.specs.Modules.{the, the_atom, the_number, the_list, ask_for, compute, in_turn, with_result, function, main, module_of, on, any, only, receive, for_ever, wait}
use Rattle.world_model.specs.Names.{Name}
use Rattle.world_model.specs.Terms.{atom, process}

abbrev pub a : Meaning
a = atom (codes "a")

abbrev pub b : Meaning
b = atom (codes "b")

-- the caller is `Me` in what follows, and spawns 'c' with it
abbrev pub as_me : Tree → Tree
as_me body = with_result (codes "Me") (compute pures.OwnPid []) body

abbrev pub spawn_with : List Tree → Tree
spawn_with arguments = ask_for kinds.Spawn (the_atom (codes "m") ∷ the_atom (codes "c") ∷ the_list (the (codes "Me") ∷ arguments) ∷ [])

abbrev pub send : Tree → Tree
send message = ask_for kinds.Bang (the (codes "To") ∷ message ∷ [])

abbrev pub fail : Name → Tree
fail text = compute pures.Error (the_atom text ∷ [])

-- ---- a child sends 'a', then 'b'; its parent waits for 'b', and then for anything

abbrev pub sends_both : DefinitionTree
sends_both = function (codes "c") (codes "To" ∷ []) (in_turn (send (the_atom (codes "a"))) (send (the_atom (codes "b"))))

abbrev pub selective : ModuleTree
selective = module_of (main (as_me (in_turn (spawn_with []) (in_turn (receive (on (only (codes "b")) (the_atom (codes "x")) ∷ []) for_ever (the_atom (codes "x"))) wait))) ∷ sends_both ∷ [])

abbrev pub both_sent : List Step
both_sent = Turn P ∷ Turn P_1 ∷ Turn P_1 ∷ Deliver P_1 P ∷ []

-- while only 'a' is there, it waits
abbrev pub WaitsForIts : Type 0
WaitsForIts = HasNoRun selective (both_sent ++ (Turn P ∷ []))

-- then it takes 'b', and 'a' after it
abbrev pub TakesItsFirst : Type 0
TakesItsFirst = EndsWith selective (both_sent ++ (Deliver P_1 P ∷ Turn P ∷ [])) (event (Turn P) (Received b))

abbrev pub TakesTheOther : Type 0
TakesTheOther = EndsWith selective (both_sent ++ (Deliver P_1 P ∷ Turn P ∷ Turn P ∷ [])) (event (Turn P) (Received a))

-- ---- two messages that a receive selects: it takes the older

abbrev pub patient : ModuleTree
patient = module_of (main (as_me (in_turn (spawn_with []) wait)) ∷ sends_both ∷ [])

abbrev pub TakesTheOlder : Type 0
TakesTheOlder = EndsWith patient (both_sent ++ (Deliver P_1 P ∷ Turn P ∷ [])) (event (Turn P) (Received a))

-- ---- two children send to their parent; the second is heard first, and its clause fails

abbrev pub sends_its : DefinitionTree
sends_its = function (codes "c") (codes "To" ∷ codes "X" ∷ []) (send (the (codes "X")))

abbrev pub hears : ModuleTree
hears =
    module_of (main (as_me (in_turn (spawn_with (the_atom (codes "a") ∷ [])) (in_turn (spawn_with (the_atom (codes "b") ∷ [])) (receive (on (only (codes "a")) (the_atom (codes "ok")) ∷ on (only (codes "b")) (fail (codes "bad")) ∷ []) for_ever (the_atom (codes "ok"))))))
    ∷ sends_its
    ∷ [])

abbrev pub SecondIsHeard : Type 0
SecondIsHeard = Happens hears (Turn P ∷ Turn P ∷ Turn P_2 ∷ Deliver P_2 P ∷ Turn P ∷ Turn P ∷ []) (
    serves_it P kinds.Spawn (spawned (codes "c") (process P ∷ a ∷ [])) (process P_1)
    ∷ serves_it P kinds.Spawn (spawned (codes "c") (process P ∷ b ∷ [])) (process P_2)
    ∷ serves_it P_2 kinds.Bang (process P ∷ b ∷ []) b
    ∷ event (Deliver P_2 P) (Delivered (Message b) (Arrives b))
    ∷ event (Turn P) (Received b)
    ∷ ends_it P (error_of (codes "bad"))
    ∷ [])

-- ---- where no message is there and the timeout is a number, the turn reaches it

abbrev pub hurries : ModuleTree
hurries =
    module_of (main (as_me (in_turn (spawn_with []) (receive (on (any (codes "X")) (fail (codes "got")) ∷ []) (the_number (pos 5)) (fail (codes "late")))))
    ∷ function (codes "c") (codes "To" ∷ []) (send (the_atom (codes "x")))
    ∷ [])

abbrev pub ComesToTimeout : Type 0
ComesToTimeout = Happens hurries (Turn P ∷ Turn P ∷ Turn P ∷ []) (
    serves_it P kinds.Spawn (spawned (codes "c") (process P ∷ [])) (process P_1)
    ∷ event (Turn P) TimedOut
    ∷ ends_it P (error_of (codes "late"))
    ∷ [])

abbrev pub ComesToMessage : Type 0
ComesToMessage = EndsWith hurries (Turn P ∷ Turn P_1 ∷ Deliver P_1 P ∷ Turn P ∷ Turn P ∷ []) (ends_it P (error_of (codes "got")))
