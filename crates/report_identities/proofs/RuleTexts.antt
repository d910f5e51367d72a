-- The texts of rules: what they are, which bytes they lack, and that no two rules have one.
use Rattle.std.proofs.Common.{◌≡◌, ◌==◌, ℕ, ◌-◌, Bool, true, List, [], ◌∷◌, get_or, Option, Some, None, MatchOption, IsUtf8, bytes_eq, ap, sym, refl, ◌∙◌, subst, eqb-true}
use Rattle.std.proofs.lemmas.Bool.{and_parts}
use Rattle.std.specs.Fmt.{digits}
use Rattle.std.specs.List.{AllByRecursion, list_all, position_or_len}
use Rattle.world_identities.specs.Order.{number_of_rule}
use Rattle.world_model.specs.declared.rule.Rule.{Rule}
use Rattle.world_model.specs.declared.rule.Rule.TheVariants.{BadTable, NoTable, PrivateRead, PrivateWrite, ProtectedWrite, NotOwner, BadName, BadOption, NameTaken, NotObject, ShortObject, BadPosition, NoKey, NotInteger, BagRefused, DeadTarget, OwnTarget, BadItem, CounterRange}
use Rattle.world_event_text.specs.CallText.{text_of_rule}
use Rattle.report_identities.specs.inside.Cuts.{Lacks}
use Rattle.report_identities.specs.inside.Rules.{words_of}
use Rattle.report_identities.proofs.Ascii.{is_ascii, utf8_by}
use Rattle.report_identities.proofs.Lists.{all_at, at_all}
use Rattle.report_identities.proofs.Marks.{has_none, lacks_by}

-- each is the text of its rule
pub text_is : (rule : Rule) → text_of_rule rule ≡ words_of rule
unfolding digits
text_is BadTable = refl
text_is NoTable = refl
text_is PrivateRead = refl
text_is PrivateWrite = refl
text_is ProtectedWrite = refl
text_is NotOwner = refl
text_is BadName = refl
text_is BadOption = refl
text_is NameTaken = refl
text_is NotObject = refl
text_is ShortObject = refl
text_is BadPosition = refl
text_is NoKey = refl
text_is NotInteger = refl
text_is BagRefused = refl
text_is DeadTarget = refl
text_is OwnTarget = refl
text_is BadItem = refl
text_is CounterRange = refl

-- ---- what holds of all rules

abbrev pub every_rule : List Rule
every_rule = BadTable ∷ NoTable ∷ PrivateRead ∷ PrivateWrite ∷ ProtectedWrite ∷ NotOwner ∷ BadName ∷ BadOption ∷ NameTaken ∷ NotObject ∷ ShortObject ∷ BadPosition ∷ NoKey ∷ NotInteger ∷ BagRefused ∷ DeadTarget ∷ OwnTarget ∷ BadItem ∷ CounterRange ∷ []

rule_at : (rule : Rule) → get_or every_rule (number_of_rule rule - 1) BadTable ≡ rule
rule_at BadTable = refl
rule_at NoTable = refl
rule_at PrivateRead = refl
rule_at PrivateWrite = refl
rule_at ProtectedWrite = refl
rule_at NotOwner = refl
rule_at BadName = refl
rule_at BadOption = refl
rule_at NameTaken = refl
rule_at NotObject = refl
rule_at ShortObject = refl
rule_at BadPosition = refl
rule_at NoKey = refl
rule_at NotInteger = refl
rule_at BagRefused = refl
rule_at DeadTarget = refl
rule_at OwnTarget = refl
rule_at BadItem = refl
rule_at CounterRange = refl

-- what all pass by a test, each passes
of_each : (test : Rule → Bool) → list_all test every_rule ≡ true → (rule : Rule) → test rule ≡ true
of_each test all rule = subst (λ r. test r ≡ true) (rule_at rule) (at_all test every_rule (number_of_rule rule - 1) BadTable all (and_parts _ _ all).0)

-- no rule has a bracket
pub rule_lacks_bracket : (rule : Rule) → Lacks 40 (text_of_rule rule)
rule_lacks_bracket rule = subst (Lacks 40) (sym (text_is rule)) (lacks_by 40 (words_of rule) (of_each (λ r. has_none 40 (words_of r)) refl rule))

-- nor a comma
pub rule_lacks_comma : (rule : Rule) → Lacks 44 (text_of_rule rule)
rule_lacks_comma rule = subst (Lacks 44) (sym (text_is rule)) (lacks_by 44 (words_of rule) (of_each (λ r. has_none 44 (words_of r)) refl rule))

-- each is UTF-8
pub rule_utf8 : (rule : Rule) (bytes : List ℕ) → bytes ≡ text_of_rule rule → IsUtf8 bytes
rule_utf8 rule bytes e = subst IsUtf8 (sym (e ∙ text_is rule)) (utf8_by (words_of rule) (of_each (λ r. is_ascii (words_of r)) refl rule))

-- ---- one text, one rule

-- the place of the rule with this text
abbrev place : List ℕ → ℕ
place text = position_or_len (λ r. bytes_eq (words_of r) text) every_rule

placed : (rule : Rule) → place (words_of rule) ≡ number_of_rule rule - 1
placed rule = eqb-true _ _ (of_each (λ r. place (words_of r) == (number_of_rule r - 1)) refl rule)

pub one_rule : (x y : Rule) → text_of_rule x ≡ text_of_rule y → x ≡ y
one_rule x y e =
    let places : number_of_rule x - 1 ≡ number_of_rule y - 1 = sym (placed x) ∙ ap place (sym (text_is x) ∙ e ∙ text_is y) ∙ placed y in
    sym (rule_at x) ∙ ap (λ n. get_or every_rule n BadTable) places ∙ rule_at y

-- a text that is none of these is that of no rule
pub no_rule : (text : List ℕ) → AllByRecursion (λ rule. text ≡ words_of rule → ⊥) every_rule → (rule : Rule) → text ≡ words_of rule → ⊥
no_rule text others rule = subst (λ r. text ≡ words_of r → ⊥) (rule_at rule) (all_at (λ r. text ≡ words_of r → ⊥) every_rule (number_of_rule rule - 1) BadTable others others.0)

-- what is known of the words is known of the text
pub rule_read : (text : List ℕ) (found : Option Rule) → MatchOption found ((rule : Rule) → text ≡ words_of rule → ⊥) (λ rule. text ≡ words_of rule)
    → MatchOption found ((rule : Rule) → text ≡ text_of_rule rule → ⊥) (λ rule. text ≡ text_of_rule rule)
rule_read text None none = λ rule e. none rule (e ∙ text_is rule)
rule_read text (Some rule) is = is ∙ sym (text_is rule)
