-- What steps do, as terms of Erlang.
use Rattle.std.specs.Prelude.{ℕ, List, ◌++◌, codes}
use Rattle.std.specs.Fmt.{decimal}
use Rattle.term_core.specs.Meaning.{Meaning}
use Rattle.core_calls.specs.declared.call.CallKind.{CallKind}
use Rattle.world_model.specs.Names.{Ref}
use Rattle.world_model.specs.Events.{Signal, Message, Exit, LinkExit, Down, Guarded, Elapsed, Fate, Arrives, IsIgnored, IsDropped, Kills, Refusal, Badarg, NoProcess, ByRule, Deed, Served, Refused, EndedItself, Received, TimedOut, Ended, RanAway, Delivered, Event}
use Rattle.report_terms.specs.Strings.{string_of_reference, string_of_step, string_of_term, term_after_comma}
use Rattle.report_terms.specs.CallTerms.{call_as_term, rule_as_term}

-- `{Word,Term}`
abbrev pub word_and_term : List ℕ → Meaning → List ℕ
word_and_term word m = codes "{" ++ (word ++ (codes "," ++ (string_of_term m ++ codes "}")))

-- ---- turns

-- `{Word,Call,Term}`
abbrev pub word_call_and_term : List ℕ → CallKind → List Meaning → Meaning → List ℕ
word_call_and_term word kind arguments m = codes "{" ++ (word ++ (codes "," ++ (call_as_term kind arguments ++ (codes "," ++ (string_of_term m ++ codes "}")))))

-- why a call was refused
abbrev pub refusal_as_term : Refusal → List ℕ
refusal_as_term Badarg = codes "badarg"
refusal_as_term NoProcess = codes "noproc"
refusal_as_term (ByRule rule owner) = rule_as_term rule owner

-- `{refused,Call,Why}`
abbrev pub refused_as_term : CallKind → List Meaning → Refusal → List ℕ
refused_as_term kind arguments refusal = codes "{refused," ++ (call_as_term kind arguments ++ (codes "," ++ (refusal_as_term refusal ++ codes "}")))

-- ---- deliveries

-- what became of a signal: `{message,M}` where it was put into the mailbox
abbrev pub fate_as_term : Fate → List ℕ
fate_as_term (Arrives message) = word_and_term (codes "message") message
fate_as_term IsIgnored = codes "ignored"
fate_as_term IsDropped = codes "dropped"
fate_as_term (Kills reason) = word_and_term (codes "ends") reason

-- `{exit,Reason,Fate}`, of an exit signal, of `exit/2` or of a link
abbrev pub exit_as_term : Meaning → Fate → List ℕ
exit_as_term reason fate = codes "{exit," ++ (string_of_term reason ++ (codes "," ++ (fate_as_term fate ++ codes "}")))

-- `{down,Reference,Fate}`, that a watched process ended, by the reference of the watch
abbrev pub down_as_term : Ref → Fate → List ℕ
down_as_term ref fate = codes "{down," ++ (string_of_reference ref ++ (codes "," ++ (fate_as_term fate ++ codes "}")))

-- a message by an alias or a timer: a beginning that says which, as `{alias,`, and then `Reference,Message,Fate}`
abbrev pub guarded_as_term : List ℕ → Ref → Meaning → Fate → List ℕ
guarded_as_term beginning ref message fate = beginning ++ (string_of_reference ref ++ (term_after_comma message ++ (codes "," ++ (fate_as_term fate ++ codes "}"))))

-- a signal, and what became of it
abbrev pub delivered_as_term : Signal → Fate → List ℕ
delivered_as_term (Message message) fate = word_and_term (codes "brings") message
delivered_as_term (Exit reason) fate = exit_as_term reason fate
delivered_as_term (LinkExit reason) fate = exit_as_term reason fate
delivered_as_term (Down ref reason) fate = down_as_term ref fate
delivered_as_term (Guarded ref message) fate = guarded_as_term (codes "{alias,") ref message fate
delivered_as_term (Elapsed ref message) fate = guarded_as_term (codes "{timer,") ref message fate

-- ---- events

-- what a step did
abbrev pub deed_as_term : Deed → List ℕ
deed_as_term (Served kind arguments answer) = word_call_and_term (codes "answers") kind arguments answer
deed_as_term (Refused kind arguments refusal) = refused_as_term kind arguments refusal
deed_as_term (EndedItself kind arguments reason) = word_call_and_term (codes "ends_by") kind arguments reason
deed_as_term (Received message) = word_and_term (codes "receives") message
deed_as_term TimedOut = codes "times_out"
deed_as_term (Ended reason) = word_and_term (codes "ends") reason
deed_as_term RanAway = codes "runs_away"
deed_as_term (Delivered signal fate) = delivered_as_term signal fate

-- `{event,N,Step,Deed}.`, the line of the event of this number
abbrev pub event_line : ℕ → Event → List ℕ
event_line number e = codes "{event," ++ (decimal number ++ (codes "," ++ (string_of_step e.step ++ (codes "," ++ (deed_as_term e.deed ++ codes "}.\n")))))
