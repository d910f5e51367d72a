-- The transcript: the text of each event, as bytes.
use Rattle.std.specs.Prelude.{ℕ, ◌+◌, List, [], ◌∷◌, ◌++◌, length, codes}
use Rattle.std.specs.Fmt.{decimal}
use Rattle.term_core.specs.Meaning.{Meaning}
use Rattle.term_core.specs.Text.{text_of_step}
use Rattle.term_core.specs.TermText.{text_of_term, text_of_reference}
use Rattle.core_calls.specs.declared.call.CallKind.{CallKind}
use Rattle.world_model.specs.Names.{Ref}
use Rattle.world_model.specs.Events.{Signal, Message, Exit, LinkExit, Down, Guarded, Elapsed, Fate, Arrives, IsIgnored, IsDropped, Kills, Refusal, Badarg, NoProcess, ByRule, Deed, Served, Refused, EndedItself, Received, TimedOut, Ended, RanAway, Delivered, Event, History}
use Rattle.world_event_text.specs.CallText.{text_of_call, text_of_broken_rule}

-- the end of a process with this reason
abbrev pub text_of_end : Meaning → List ℕ
text_of_end reason = codes "ends " ++ text_of_term reason

-- ---- turns

-- a call that was served, with its answer
abbrev pub text_of_answer : CallKind → List Meaning → Meaning → List ℕ
text_of_answer kind arguments answer = text_of_call kind arguments ++ (codes " -> " ++ text_of_term answer)

-- why a call was refused
abbrev pub text_of_refusal : Refusal → List ℕ
text_of_refusal Badarg = codes "badarg"
text_of_refusal NoProcess = codes "noproc"
text_of_refusal (ByRule rule owner) = text_of_broken_rule rule owner

-- a call that was refused
abbrev pub text_of_refused : CallKind → List Meaning → Refusal → List ℕ
text_of_refused kind arguments refusal = text_of_call kind arguments ++ (codes " -> " ++ text_of_refusal refusal)

-- a call that ended its caller
abbrev pub text_of_last_call : CallKind → List Meaning → Meaning → List ℕ
text_of_last_call kind arguments reason = text_of_call kind arguments ++ (codes " -> " ++ text_of_end reason)

-- a receive that took a message
abbrev pub text_of_received : Meaning → List ℕ
text_of_received message = codes "receives " ++ text_of_term message

-- ---- deliveries

-- what became of a signal; where it was put into the mailbox, the message
abbrev pub text_of_fate : Fate → List ℕ
text_of_fate (Arrives message) = text_of_term message
text_of_fate IsIgnored = codes "ignored"
text_of_fate IsDropped = codes "dropped"
text_of_fate (Kills reason) = text_of_end reason

-- and that after an arrow
abbrev pub after_arrow : Fate → List ℕ
after_arrow fate = codes " -> " ++ text_of_fate fate

-- a message
abbrev pub text_of_message : Meaning → List ℕ
text_of_message message = codes "brings " ++ text_of_term message

-- an exit signal, of `exit/2` or of a link
abbrev pub text_of_exit : Meaning → Fate → List ℕ
text_of_exit reason fate = codes "exit " ++ (text_of_term reason ++ after_arrow fate)

-- that a watched process ended, by the reference of the watch
abbrev pub text_of_down : Ref → Fate → List ℕ
text_of_down ref fate = codes "down " ++ (text_of_reference ref.pid ref.number ++ after_arrow fate)

-- what became of a message, where it did not come into the mailbox
abbrev pub text_unless_put : Fate → List ℕ
text_unless_put (Arrives message) = []
text_unless_put IsIgnored = after_arrow IsIgnored
text_unless_put IsDropped = after_arrow IsDropped
text_unless_put (Kills reason) = after_arrow (Kills reason)

-- a message by an alias or a timer, as the words say, with its reference
abbrev pub text_of_guarded : List ℕ → Ref → Meaning → Fate → List ℕ
text_of_guarded words ref message fate = text_of_message message ++ (words ++ (text_of_reference ref.pid ref.number ++ text_unless_put fate))

-- a signal, and what became of it
abbrev pub text_of_delivered : Signal → Fate → List ℕ
text_of_delivered (Message message) fate = text_of_message message
text_of_delivered (Exit reason) fate = text_of_exit reason fate
text_of_delivered (LinkExit reason) fate = text_of_exit reason fate
text_of_delivered (Down ref reason) fate = text_of_down ref fate
text_of_delivered (Guarded ref message) fate = text_of_guarded (codes " by alias ") ref message fate
text_of_delivered (Elapsed ref message) fate = text_of_guarded (codes " by timer ") ref message fate

-- ---- events

-- what a step did
abbrev pub text_of_deed : Deed → List ℕ
text_of_deed (Served kind arguments answer) = text_of_answer kind arguments answer
text_of_deed (Refused kind arguments refusal) = text_of_refused kind arguments refusal
text_of_deed (EndedItself kind arguments reason) = text_of_last_call kind arguments reason
text_of_deed (Received message) = text_of_received message
text_of_deed TimedOut = codes "times out"
text_of_deed (Ended reason) = text_of_end reason
text_of_deed RanAway = codes "runs away"
text_of_deed (Delivered signal fate) = text_of_delivered signal fate

-- the line of the event of this number: the number, the step (of a turn its process), what it did, and the line's end
abbrev pub text_of_event : ℕ → Event → List ℕ
text_of_event number e = decimal number ++ (codes " " ++ (text_of_step e.step ++ (codes " " ++ (text_of_deed e.deed ++ codes "\n"))))

-- the lines of a history, in the order in which its events came, numbered from 1
abbrev pub text_of_events : History → List ℕ
text_of_events [] = []
text_of_events (e ∷ earlier) = text_of_events earlier ++ text_of_event (length earlier + 1) e
