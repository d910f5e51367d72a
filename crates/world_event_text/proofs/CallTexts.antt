-- Other ways to say the texts of calls and rules.
use Rattle.std.proofs.Common.{◌≡◌, ℕ, List, [], ◌∷◌, ◌++◌, sym, ap, ◌∙◌, append-nil, map, codes}
use Rattle.std.specs.List.{flat_map}
use Rattle.term_core.specs.Meaning.{Meaning}
use Rattle.term_core.specs.Term.{meaning_of}
use Rattle.term_core.specs.TermText.{text_of_term}
use Rattle.term_core.specs.declared.term.Term.{Term}
use Rattle.std.specs.Fmt.{decimal}
use Rattle.core_calls.specs.declared.call.CallKind.{CallKind}
use Rattle.core_calls.specs.Calls.{signature}
use Rattle.world_model.specs.declared.rule.Rule.{Rule}
use Rattle.world_identities.specs.Order.{number_of_rule}
use Rattle.world_event_text.specs.CallText.{behind_comma, text_of_arguments, text_of_call, text_of_rule, name_of_rule}

-- the first argument, and each other after a comma
pub text_of_arguments-cons : (t : Term) (ts : List Term) → text_of_arguments (map meaning_of (t ∷ ts)) ≡ text_of_term (meaning_of t) ++ flat_map (λ u. behind_comma (meaning_of u)) ts
text_of_arguments-cons t [] = sym (append-nil (text_of_term (meaning_of t)))
text_of_arguments-cons t (u ∷ ts) = ap (λ w. text_of_term (meaning_of t) ++ (codes "," ++ w)) (text_of_arguments-cons u ts)

-- a call by what its module and its function are called
pub text_of_call-names : (kind : CallKind) (arguments : List Meaning) (m f : List ℕ) → m ≡ (signature kind).module_name → f ≡ (signature kind).function_name → text_of_call kind arguments ≡ m ++ (codes ":" ++ (f ++ (codes "(" ++ (text_of_arguments arguments ++ codes ")"))))
text_of_call-names kind arguments m f e h = sym (ap (λ w. w ++ (codes ":" ++ (f ++ (codes "(" ++ (text_of_arguments arguments ++ codes ")"))))) e ∙ ap (λ w. (signature kind).module_name ++ (codes ":" ++ (w ++ (codes "(" ++ (text_of_arguments arguments ++ codes ")"))))) h)

-- a rule by what its number and its name are
pub text_of_rule-names : (rule : Rule) (n : ℕ) (name : List ℕ) → n ≡ number_of_rule rule → name ≡ name_of_rule rule → text_of_rule rule ≡ decimal n ++ (codes " " ++ name)
text_of_rule-names rule n name e h = sym (ap (λ w. decimal w ++ (codes " " ++ name)) e ∙ ap (λ w. decimal (number_of_rule rule) ++ (codes " " ++ w)) h)
