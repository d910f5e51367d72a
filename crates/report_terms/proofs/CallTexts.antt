-- Other ways to say the names of calls, and rules.
use Rattle.std.proofs.Common.{◌≡◌, ℕ, List, ◌++◌, Option, sym, ap, ◌∙◌, codes}
use Rattle.std.specs.Fmt.{decimal}
use Rattle.core_calls.specs.declared.call.CallKind.{CallKind}
use Rattle.core_calls.specs.Calls.{signature}
use Rattle.world_model.specs.Names.{Pid}
use Rattle.world_model.specs.declared.rule.Rule.{Rule}
use Rattle.world_identities.specs.Order.{number_of_rule}
use Rattle.world_event_text.specs.CallText.{name_of_rule}
use Rattle.report_terms.specs.CallTerms.{names_of_call, owner_as_term, rule_as_term}
use Rattle.report_terms.specs.Strings.{in_marks}

-- a call by what its module and its function are called
pub names-by : (kind : CallKind) (m f : List ℕ) → m ≡ (signature kind).module_name → f ≡ (signature kind).function_name → names_of_call kind ≡ in_marks m ++ (codes "," ++ in_marks f)
names-by kind m f e h = sym (ap (λ w. in_marks w ++ (codes "," ++ in_marks f)) e ∙ ap (λ w. in_marks (signature kind).module_name ++ (codes "," ++ in_marks w)) h)

-- a rule by what its number and its name are
pub rule-by : (rule : Rule) (owner : Option Pid) (n : ℕ) (name : List ℕ) → n ≡ number_of_rule rule → name ≡ name_of_rule rule
    → rule_as_term rule owner ≡ codes "{rule," ++ (decimal n ++ (codes ",'" ++ (name ++ (codes "'," ++ (owner_as_term owner ++ codes "}")))))
rule-by rule owner n name e h =
    sym (
    ap (λ w. codes "{rule," ++ (decimal w ++ (codes ",'" ++ (name ++ (codes "'," ++ (owner_as_term owner ++ codes "}")))))) e
    ∙ ap (λ w. codes "{rule," ++ (decimal (number_of_rule rule) ++ (codes ",'" ++ (w ++ (codes "'," ++ (owner_as_term owner ++ codes "}")))))) h
    )
