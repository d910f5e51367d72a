-- Calls, and the rules that refuse them, as terms of Erlang.
use Rattle.std.specs.Prelude.{ℕ, List, ◌++◌, Option, Some, None, codes}
use Rattle.std.specs.Fmt.{decimal}
use Rattle.term_core.specs.Meaning.{Meaning}
use Rattle.core_calls.specs.declared.call.CallKind.{CallKind}
use Rattle.core_calls.specs.Calls.{signature}
use Rattle.world_model.specs.Names.{Pid}
use Rattle.world_model.specs.declared.rule.Rule.{Rule}
use Rattle.world_identities.specs.Order.{number_of_rule}
use Rattle.world_event_text.specs.CallText.{name_of_rule}
use Rattle.report_terms.specs.Strings.{in_marks, string_of_pid, strings_of_terms}

-- the names of the module and of the function of a call, each as a string
abbrev pub names_of_call : CallKind → List ℕ
names_of_call kind = in_marks (signature kind).module_name ++ (codes "," ++ in_marks (signature kind).function_name)

-- `{call,Module,Function,[Argument,..]}`
abbrev pub call_as_term : CallKind → List Meaning → List ℕ
call_as_term kind arguments = codes "{call," ++ (names_of_call kind ++ (codes ",[" ++ (strings_of_terms arguments ++ codes "]}")))

-- the owner of a table where it is reported, else `none`
abbrev pub owner_as_term : Option Pid → List ℕ
owner_as_term None = codes "none"
owner_as_term (Some owner) = string_of_pid owner

-- `{rule,Number,'Name',Owner}`
abbrev pub rule_as_term : Rule → Option Pid → List ℕ
rule_as_term rule owner = codes "{rule," ++ (decimal (number_of_rule rule) ++ (codes ",'" ++ (name_of_rule rule ++ (codes "'," ++ (owner_as_term owner ++ codes "}")))))
