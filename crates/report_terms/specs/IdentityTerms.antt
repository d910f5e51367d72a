-- What a schedule shows, as a term of Erlang.
use Rattle.std.specs.Prelude.{ℕ, List, ◌++◌, Option, codes}
use Rattle.std.specs.Fmt.{decimal}
use Rattle.term_core.specs.Meaning.{Meaning}
use Rattle.core_calls.specs.declared.call.CallKind.{CallKind}
use Rattle.world_model.specs.Names.{Pid}
use Rattle.world_model.specs.Shown.{Identity, End, Deadlock, Runaway, RefusedCall, Unread}
use Rattle.world_model.specs.declared.rule.Rule.{Rule}
use Rattle.report_terms.specs.Strings.{string_of_pid, string_of_term, strings_of_pids}
use Rattle.report_terms.specs.CallTerms.{call_as_term, rule_as_term}

-- `{ends,Pid,Reason}`
abbrev pub end_as_term : Pid → Meaning → List ℕ
end_as_term p reason = codes "{ends," ++ (string_of_pid p ++ (codes "," ++ (string_of_term reason ++ codes "}")))

-- `{deadlock,[Pid,..]}`
abbrev pub deadlock_as_term : List Pid → List ℕ
deadlock_as_term processes = codes "{deadlock,[" ++ (strings_of_pids processes ++ codes "]}")

-- `{unread,[Pid,..]}`
abbrev pub unread_as_term : List Pid → List ℕ
unread_as_term processes = codes "{unread,[" ++ (strings_of_pids processes ++ codes "]}")

-- `{runs_away,Pid}`
abbrev pub runaway_as_term : Pid → List ℕ
runaway_as_term p = codes "{runs_away," ++ (string_of_pid p ++ codes "}")

-- `{refused,Pid,Request,Call,Rule}`
abbrev pub refused_call_as_term : Pid → ℕ → CallKind → List Meaning → Rule → Option Pid → List ℕ
refused_call_as_term p request kind arguments rule told =
    codes "{refused," ++ (string_of_pid p ++ (codes "," ++ (decimal request ++ (codes "," ++ (call_as_term kind arguments ++ (codes "," ++ (rule_as_term rule told ++ codes "}")))))))

-- what a schedule shows
abbrev pub identity_as_term : Identity → List ℕ
identity_as_term (End p reason) = end_as_term p reason
identity_as_term (Deadlock processes) = deadlock_as_term processes
identity_as_term (Runaway p) = runaway_as_term p
identity_as_term (RefusedCall p request kind arguments rule told) = refused_call_as_term p request kind arguments rule told
identity_as_term (Unread processes) = unread_as_term processes
