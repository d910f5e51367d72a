-- Worked rows: lines of events.
use Rattle.std.specs.Prelude.{◌≡◌, [], ◌∷◌, Some, codes}
use Rattle.term_core.specs.Meaning.{Atom}
use Rattle.term_core.specs.declared.step.Step.TheVariants.{Turn, Deliver}
use Rattle.core_calls.specs.declared.call.CallKind.TheVariants.{Lookup}
use Rattle.world_model.specs.Events.{event, Refused, ByRule, Received, TimedOut, Delivered, LinkExit, Guarded, Elapsed, Arrives, IsDropped, Kills}
use Rattle.world_model.specs.Names.{Ref}
use Rattle.world_model.specs.declared.rule.Rule.TheVariants.{ProtectedWrite}
use Rattle.report_terms.specs.EventTerms.{event_line}

abbrev pub MessageIsTold : Type 0
MessageIsTold = event_line 3 (event (Turn (2 ∷ [])) (Received (Atom (codes "a")))) ≡ codes "{event,3,\"P.2\",{receives,\"'a'\"}}.\n"

abbrev pub TimeoutIsTold : Type 0
TimeoutIsTold = event_line 4 (event (Turn []) TimedOut) ≡ codes "{event,4,\"P\",times_out}.\n"

-- a call that a rule refuses, with the owner of the table
abbrev pub RefusalIsTold : Type 0
RefusalIsTold =
    event_line 1 (event (Turn []) (Refused Lookup (Atom (codes "t") ∷ Atom (codes "a") ∷ []) (ByRule ProtectedWrite (Some (2 ∷ [])))))
    ≡ codes "{event,1,\"P\",{refused,{call,\"ets\",\"lookup\",[\"'t'\",\"'a'\"]},{rule,5,'ProtectedWrite',\"P.2\"}}}.\n"

-- a process that a link ends
abbrev pub KillIsTold : Type 0
KillIsTold =
    event_line 3 (event (Deliver (1 ∷ []) []) (Delivered (LinkExit (Atom (codes "x"))) (Kills (Atom (codes "x")))))
    ≡ codes "{event,3,\"P.1>P\",{exit,\"'x'\",{ends,\"'x'\"}}}.\n"

-- a message by an alias, and one of a timer, which came too late
abbrev pub second : Ref
second = record { pid = []; number = 2 }

abbrev pub AliasIsTold : Type 0
AliasIsTold =
    event_line 5 (event (Deliver (1 ∷ []) []) (Delivered (Guarded second (Atom (codes "x"))) (Arrives (Atom (codes "x")))))
    ≡ codes "{event,5,\"P.1>P\",{alias,\"#P.2\",\"'x'\",{message,\"'x'\"}}}.\n"

abbrev pub TimerIsTold : Type 0
TimerIsTold =
    event_line 5 (event (Deliver (2 ∷ []) []) (Delivered (Elapsed second (Atom (codes "x"))) IsDropped))
    ≡ codes "{event,5,\"P.2>P\",{timer,\"#P.2\",\"'x'\",dropped}}.\n"
