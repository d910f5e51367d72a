-- Why calls are refused: the texts of a rule, an owner and the last bracket.
use Rattle.std.proofs.Common.{◌≡◌, ◌==◌, ℕ, false, length, true≢false, List, [], ◌∷◌, ◌++◌, Option, Some, None, IfSome, codes, ap, ap₂, sym, refl, ◌∙◌, arith, append_assoc}
use Rattle.std.proofs.lemmas.List.{append_cancel_left, append_cancel_right}
use Rattle.term_core.proofs.Pieces.{Begins, behind-append, front-append, front-append-behind, one_cut}
use Rattle.term_core.specs.Text.{text_of_pid}
use Rattle.term_reader.specs.Lawful.{AreNumbers}
use Rattle.world_model.specs.Names.{Pid}
use Rattle.world_model.specs.declared.rule.Rule.{Rule}
use Rattle.world_event_text.specs.CallText.{text_of_owner, text_of_rule}
use Rattle.report_identities.specs.inside.CallPieces.{text_of_reason}
use Rattle.report_identities.specs.inside.Cuts.{Lacks, behind, front}
use Rattle.report_identities.specs.inside.Reading.{IsReason}
use Rattle.report_identities.proofs.Marks.{lacks-append, lacks_by}
use Rattle.report_identities.proofs.ProcessTexts.{lacks-pid, pid_injective}
use Rattle.report_identities.proofs.RuleTexts.{one_rule, rule_lacks_bracket, rule_lacks_comma}

-- ---- owners

owner_begins : (told : Option Pid) → Begins 44 (text_of_owner told)
owner_begins None = tt
owner_begins (Some p) = refl

owner_lacks : (told : Option Pid) → IfSome told AreNumbers → Lacks 40 (text_of_owner told)
owner_lacks None h = tt
owner_lacks (Some p) h = lacks-append 40 (codes ", owner ") (text_of_pid p) (lacks_by 40 (codes ", owner ") refl) (lacks-pid 40 (omega arith) p h)

one_owner : (x y : Option Pid) → IfSome x AreNumbers → IfSome y AreNumbers → text_of_owner x ≡ text_of_owner y → x ≡ y
one_owner None None h k e = refl
one_owner None (Some q) h k e = let none : [] ≡ 44 ∷ (codes " owner " ++ text_of_pid q) = e in cc
one_owner (Some p) None h k e = let none : 44 ∷ (codes " owner " ++ text_of_pid p) ≡ [] = e in cc
one_owner (Some p) (Some q) h k e = ap Some (pid_injective p q h k (append_cancel_left (codes ", owner ") (text_of_pid p) (text_of_pid q) e))

-- a text that is tested not to be empty is not
pub some_bytes : (text : List ℕ) → false ≡ (length text == 0) → text ≡ [] → ⊥
some_bytes [] e f = true≢false (sym e)
some_bytes (b ∷ bs) e f = cc

-- an owner is reported only after its words
pub no_owner : (text : List ℕ) → (text ≡ [] → ⊥) → ((rest : List ℕ) → text ≡ codes ", owner " ++ rest → ⊥) → (told : Option Pid) → text ≡ text_of_owner told → ⊥
no_owner text some none None e = some e
no_owner text some none (Some p) e = none (text_of_pid p) e

pub owner_word : (text word : List ℕ) (X : Type 0) → (text ≡ [] → ⊥) → text ≡ codes ", owner " ++ word → ((p : Pid) → AreNumbers p → word ≡ text_of_pid p → X) → (told : Option Pid) → IfSome told AreNumbers → text ≡ text_of_owner told → X
owner_word text word X some is only None h e = absurd (some e)
owner_word text word X some is only (Some p) h e = only p h (append_cancel_left (codes ", owner ") word (text_of_pid p) (sym is ∙ e))

-- ---- reasons

-- a reason has no opening bracket
pub reason_lacks : (rule : Rule) (told : Option Pid) → IfSome told AreNumbers → Lacks 40 (text_of_reason rule told)
reason_lacks rule told h = lacks-append 40 (text_of_rule rule) (text_of_owner told ++ codes ")") (rule_lacks_bracket rule) (lacks-append 40 (text_of_owner told) (codes ")") (owner_lacks told h) (lacks_by 40 (codes ")") refl))

reason_ends : (rule : Rule) (told : Option Pid) → text_of_reason rule told ≡ (text_of_rule rule ++ text_of_owner told) ++ codes ")"
reason_ends rule told = sym (append_assoc (text_of_rule rule) (text_of_owner told) (codes ")"))

-- it ends with a bracket
pub no_end : (text : List ℕ) → ((rest : List ℕ) → text ≡ rest ++ codes ")" → ⊥) → (rule : Rule) (told : Option Pid) → IsReason text rule told → ⊥
no_end text none rule told is = none (text_of_rule rule ++ text_of_owner told) (is.1 ∙ reason_ends rule told)

-- before which come the rule and the owner
inside_is : (text inside : List ℕ) → text ≡ inside ++ codes ")" → (rule : Rule) (told : Option Pid) → text ≡ text_of_reason rule told → inside ≡ text_of_rule rule ++ text_of_owner told
inside_is text inside cut rule told e = append_cancel_right inside (text_of_rule rule ++ text_of_owner told) (codes ")") (sym cut ∙ e ∙ reason_ends rule told)

pub rule_word : (text inside : List ℕ) → text ≡ inside ++ codes ")" → (rule : Rule) (told : Option Pid) → IsReason text rule told → front 44 inside ≡ text_of_rule rule
rule_word text inside cut rule told is = ap (front 44) (inside_is text inside cut rule told is.1) ∙ front-append 44 (text_of_rule rule) (text_of_owner told) (rule_lacks_comma rule) (owner_begins told)

pub owner_text : (text inside : List ℕ) → text ≡ inside ++ codes ")" → (rule : Rule) (told : Option Pid) → IsReason text rule told → behind 44 inside ≡ text_of_owner told
owner_text text inside cut rule told is = ap (behind 44) (inside_is text inside cut rule told is.1) ∙ behind-append 44 (text_of_rule rule) (text_of_owner told) (rule_lacks_comma rule) (owner_begins told)

pub is_reason : (text inside : List ℕ) (rule : Rule) (told : Option Pid) → text ≡ inside ++ codes ")" → front 44 inside ≡ text_of_rule rule → behind 44 inside ≡ text_of_owner told → IfSome told AreNumbers → IsReason text rule told
is_reason text inside rule told cut word rest h =
    (h, cut ∙ ap (λ w. w ++ codes ")") (sym (front-append-behind 44 inside) ∙ ap₂ ◌++◌ word rest) ∙ sym (reason_ends rule told))

-- a reason is that of one rule and one owner
pub one_reason : (r s : Rule) (x y : Option Pid) → IfSome x AreNumbers → IfSome y AreNumbers → text_of_reason r x ≡ text_of_reason s y → (r ≡ s) × (x ≡ y)
one_reason r s x y h k e =
    let inside = append_cancel_right (text_of_rule r ++ text_of_owner x) (text_of_rule s ++ text_of_owner y) (codes ")") (sym (reason_ends r x) ∙ e ∙ reason_ends s y) in
    let same = one_cut 44 (text_of_rule r) (text_of_owner x) (text_of_rule s) (text_of_owner y) (rule_lacks_comma r) (owner_begins x) (rule_lacks_comma s) (owner_begins y) inside in
    (one_rule r s same.0, one_owner x y h k same.1)
