-- The text of what a schedule shows, as bytes.
use Rattle.std.specs.Prelude.{ℕ, List, ◌++◌, Option, codes}
use Rattle.std.specs.Fmt.{decimal}
use Rattle.std.specs.List.{flat_map}
use Rattle.term_core.specs.Meaning.{Meaning}
use Rattle.term_core.specs.Text.{text_of_pid}
use Rattle.core_calls.specs.declared.call.CallKind.{CallKind}
use Rattle.world_model.specs.Names.{Pid}
use Rattle.world_model.specs.Shown.{Identity, End, Deadlock, Runaway, RefusedCall, Unread}
use Rattle.world_model.specs.declared.rule.Rule.{Rule}
use Rattle.world_event_text.specs.CallText.{text_of_call, text_of_broken_rule}
use Rattle.world_event_text.specs.EventText.{text_of_end}

-- a process that ended
abbrev pub text_of_ended : Pid → Meaning → List ℕ
text_of_ended p reason = text_of_pid p ++ (codes " " ++ text_of_end reason)

-- a process after a blank
abbrev pub pid_behind_blank : Pid → List ℕ
pid_behind_blank p = codes " " ++ text_of_pid p

-- the processes that wait for ever
abbrev pub text_of_deadlock : List Pid → List ℕ
text_of_deadlock processes = codes "deadlock of" ++ flat_map pid_behind_blank processes

-- the processes that have messages which they do not take
abbrev pub text_of_unread : List Pid → List ℕ
text_of_unread processes = codes "unread messages of" ++ flat_map pid_behind_blank processes

-- a process that ran away
abbrev pub text_of_runaway : Pid → List ℕ
text_of_runaway p = text_of_pid p ++ codes " runs away"

-- a call of a table that was refused: the process, the number of its request, the call, and the rule with the owner where it is reported
abbrev pub text_of_refused_call : Pid → ℕ → CallKind → List Meaning → Rule → Option Pid → List ℕ
text_of_refused_call p request kind arguments rule told =
    text_of_pid p ++ (codes " request " ++ (decimal request ++ (codes " " ++ (text_of_call kind arguments ++ (codes " -> " ++ text_of_broken_rule rule told)))))

-- what a schedule shows
abbrev pub text_of_identity : Identity → List ℕ
text_of_identity (End p reason) = text_of_ended p reason
text_of_identity (Deadlock processes) = text_of_deadlock processes
text_of_identity (Runaway p) = text_of_runaway p
text_of_identity (RefusedCall p request kind arguments rule told) = text_of_refused_call p request kind arguments rule told
text_of_identity (Unread processes) = text_of_unread processes
