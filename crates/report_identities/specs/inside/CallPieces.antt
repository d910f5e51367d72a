-- The text of a refused call after its process, in pieces.
use Rattle.std.specs.Fmt.{decimal}
use Rattle.std.specs.Prelude.{◌≡◌, ℕ, List, ◌++◌, Option, codes}
use Rattle.term_core.specs.Meaning.{Meaning}
use Rattle.core_calls.specs.Calls.{signature}
use Rattle.core_calls.specs.declared.call.CallKind.{CallKind}
use Rattle.world_model.specs.Names.{Pid}
use Rattle.world_model.specs.declared.rule.Rule.{Rule}
use Rattle.world_event_text.specs.CallText.{text_of_arguments, text_of_rule, text_of_owner}
use Rattle.report_identities.specs.inside.Cuts.{Lacks}

-- the name of a call, as `ets:insert`
abbrev pub name_of_call : CallKind → List ℕ
name_of_call kind = (signature kind).module_name ++ (codes ":" ++ (signature kind).function_name)

-- a call has these names and so many arguments
abbrev pub NamesCall : List ℕ → List ℕ → ℕ → CallKind → Type 0
NamesCall module_name function_name arity kind = (module_name ≡ (signature kind).module_name) × (function_name ≡ (signature kind).function_name) × (arity ≡ (signature kind).arity)

-- no call has
abbrev pub NamesNoCall : List ℕ → List ℕ → ℕ → Type 0
NamesNoCall module_name function_name arity = (kind : CallKind) → module_name ≡ (signature kind).module_name → function_name ≡ (signature kind).function_name → arity ≡ (signature kind).arity → ⊥

-- the rule and the owner where it is reported, up to the last bracket
abbrev pub text_of_reason : Rule → Option Pid → List ℕ
text_of_reason rule told = text_of_rule rule ++ (text_of_owner told ++ codes ")")

-- the number of a request, the name of a call, its arguments, and why it was refused, in one text
abbrev pub joined : List ℕ → List ℕ → List ℕ → List ℕ → List ℕ
joined request name arguments reason = request ++ (codes " " ++ (name ++ (codes "(" ++ (arguments ++ (codes ") -> badarg (" ++ reason)))))

-- what follows ` request `
abbrev pub text_of_told_call : ℕ → CallKind → List Meaning → Rule → Option Pid → List ℕ
text_of_told_call request kind arguments rule told = joined (decimal request) (name_of_call kind) (text_of_arguments arguments) (text_of_reason rule told)

-- a text in pieces: cut at its first blank, at the first bracket after that, and at its last bracket
pub record IsCutInto (text request name arguments reason : List ℕ) : Type 0 where
  pub parts : text ≡ joined request name arguments reason
  pub request_plain : Lacks 32 request
  pub name_plain : Lacks 40 name
  pub reason_plain : Lacks 40 reason

-- no such pieces make a text
abbrev pub IsCutIntoNone : List ℕ → Type 0
IsCutIntoNone text = (request name arguments reason : List ℕ) → IsCutInto text request name arguments reason → ⊥
