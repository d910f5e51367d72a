-- The text of a refused call and its pieces.
use Rattle.std.proofs.Common.{◌≡◌, ◌==◌, false, ℕ, ◌<◌, ◌^◌, List, [], ◌∷◌, ◌++◌, Option, IfSome, codes, ap, sym, ◌∙◌, subst, arith, ne_eqb, append_assoc}
use Rattle.std.proofs.lemmas.List.{append_cancel_right}
use Rattle.std.specs.Fmt.{decimal}
use Rattle.term_core.proofs.NumberTexts.{IsDigit, all_digits-decimal}
use Rattle.term_core.proofs.Pieces.{all_weaker}
use Rattle.term_core.specs.Meaning.{Meaning}
use Rattle.core_calls.specs.Calls.{signature}
use Rattle.core_calls.specs.declared.call.CallKind.{CallKind}
use Rattle.term_reader.specs.Lawful.{AreNumbers}
use Rattle.world_model.specs.Names.{Pid}
use Rattle.world_model.specs.declared.rule.Rule.{Rule}
use Rattle.world_event_text.specs.CallText.{text_of_arguments, text_of_broken_rule, text_of_call}
use Rattle.report_identities.specs.inside.CallPieces.{IsCutInto, name_of_call, text_of_reason, text_of_told_call}
use Rattle.report_identities.specs.inside.Cuts.{IsFirstCut, IsLastCut, Lacks}
use Rattle.report_identities.proofs.CallNames.{name_lacks}
use Rattle.report_identities.proofs.Marks.{lacks_none, one_first_cut, one_last_cut}
use Rattle.report_identities.proofs.ReasonTexts.{reason_lacks}

-- what follows the first bracket
abbrev tail_of : List ℕ → List ℕ → List ℕ
tail_of arguments reason = arguments ++ (codes ") -> badarg (" ++ reason)

-- up to the last bracket, and after it
tail_cut : (arguments reason : List ℕ) → tail_of arguments reason ≡ (arguments ++ codes ") -> badarg ") ++ 40 ∷ reason
tail_cut arguments reason = sym (append_assoc arguments (codes ") -> badarg ") (40 ∷ reason))

-- ---- where a text has no such pieces

-- a blank follows the request
pub has_blank : (text r n a s : List ℕ) → IsCutInto text r n a s → Lacks 32 text → ⊥
has_blank text r n a s c none = lacks_none 32 r (n ++ 40 ∷ tail_of a s) (subst (Lacks 32) c.parts none)

call_is : (text request call r n a s : List ℕ) → IsFirstCut 32 text request call → IsCutInto text r n a s → call ≡ n ++ 40 ∷ tail_of a s
call_is text request call r n a s first c = (one_first_cut 32 request call r (n ++ 40 ∷ tail_of a s) first.lacks c.request_plain (sym first.parts ∙ c.parts)).1

-- a bracket follows the name
pub has_bracket : (text request call r n a s : List ℕ) → IsFirstCut 32 text request call → IsCutInto text r n a s → Lacks 40 call → ⊥
has_bracket text request call r n a s first c none = lacks_none 40 n (tail_of a s) (subst (Lacks 40) (call_is text request call r n a s first c) none)

inside_is : (text request call name inside r n a s : List ℕ) → IsFirstCut 32 text request call → IsFirstCut 40 call name inside → IsCutInto text r n a s → inside ≡ (a ++ codes ") -> badarg ") ++ 40 ∷ s
inside_is text request call name inside r n a s first second c =
    (one_first_cut 40 name inside n (tail_of a s) second.lacks c.name_plain (sym second.parts ∙ call_is text request call r n a s first c)).1 ∙ tail_cut a s

-- one more comes before the reason
pub has_last_bracket : (text request call name inside r n a s : List ℕ) → IsFirstCut 32 text request call → IsFirstCut 40 call name inside → IsCutInto text r n a s → Lacks 40 inside → ⊥
has_last_bracket text request call name inside r n a s first second c none =
    lacks_none 40 (a ++ codes ") -> badarg ") s (subst (Lacks 40) (inside_is text request call name inside r n a s first second c) none)

-- and before that one come the arguments
pub before_last : (text request call name inside front reason r n a s : List ℕ) → IsFirstCut 32 text request call → IsFirstCut 40 call name inside → IsLastCut 40 inside front reason → IsCutInto text r n a s → front ≡ a ++ codes ") -> badarg "
before_last text request call name inside front reason r n a s first second last c =
    (one_last_cut 40 front reason (a ++ codes ") -> badarg ") s last.lacks c.reason_plain (sym last.parts ∙ inside_is text request call name inside r n a s first second c)).0

-- ---- the pieces of a text

pub cut_is : (text request call name inside front reason arguments : List ℕ) → IsFirstCut 32 text request call → IsFirstCut 40 call name inside → IsLastCut 40 inside front reason → front ≡ arguments ++ codes ") -> badarg "
    → IsCutInto text request name arguments reason
cut_is text request call name inside front reason arguments first second last e =
    let tail : inside ≡ tail_of arguments reason = last.parts ∙ ap (λ w. w ++ 40 ∷ reason) e ∙ sym (tail_cut arguments reason) in
    record {
      parts = first.parts ∙ ap (λ w. request ++ 32 ∷ w) (second.parts ∙ ap (λ w. name ++ 40 ∷ w) tail);
      request_plain = first.lacks;
      name_plain = second.lacks;
      reason_plain = last.lacks;
    }

-- there are no others
pub record AreSame (r n a s q m b t : List ℕ) : Type 0 where
  pub request : r ≡ q
  pub name : n ≡ m
  pub arguments : a ≡ b
  pub reason : s ≡ t

pub one_cutting : (text r n a s q m b t : List ℕ) → IsCutInto text r n a s → IsCutInto text q m b t → AreSame r n a s q m b t
one_cutting text r n a s q m b t c d =
    let first = one_first_cut 32 r (n ++ 40 ∷ tail_of a s) q (m ++ 40 ∷ tail_of b t) c.request_plain d.request_plain (sym c.parts ∙ d.parts) in
    let second = one_first_cut 40 n (tail_of a s) m (tail_of b t) c.name_plain d.name_plain first.1 in
    let last = one_last_cut 40 (a ++ codes ") -> badarg ") s (b ++ codes ") -> badarg ") t c.reason_plain d.reason_plain (sym (tail_cut a s) ∙ second.1 ∙ tail_cut b t) in
    record { request = first.0; name = second.0; arguments = append_cancel_right a b (codes ") -> badarg ") last.0; reason = last.1 }

-- ---- the pieces of a call

digits_lack_blank : (n : ℕ) → n < 2 ^ 64 → Lacks 32 (decimal n)
digits_lack_blank n h = all_weaker IsDigit (λ b. (b == 32) ≡ false) (λ b d. ne_eqb b 32 (λ e. absurd (omega arith))) (decimal n) (all_digits-decimal n h)

pub told_is_cut : (text : List ℕ) (request : ℕ) (kind : CallKind) (arguments : List Meaning) (rule : Rule) (told : Option Pid) → request < 2 ^ 64 → IfSome told AreNumbers → text ≡ text_of_told_call request kind arguments rule told
    → IsCutInto text (decimal request) (name_of_call kind) (text_of_arguments arguments) (text_of_reason rule told)
told_is_cut text request kind arguments rule told low h e =
    record { parts = e; request_plain = digits_lack_blank request low; name_plain = name_lacks kind; reason_plain = reason_lacks rule told h }

-- a call and why it was refused, cut at the first bracket
pub call_text : (kind : CallKind) (arguments : List Meaning) (rule : Rule) (told : Option Pid) → text_of_call kind arguments ++ (codes " -> " ++ text_of_broken_rule rule told) ≡ name_of_call kind ++ (codes "(" ++ tail_of (text_of_arguments arguments) (text_of_reason rule told))
call_text kind arguments rule told =
    let m = (signature kind).module_name in
    let f = (signature kind).function_name in
    let a = text_of_arguments arguments in
    let t = codes " -> " ++ text_of_broken_rule rule told in
    append_assoc m (58 ∷ (f ++ 40 ∷ (a ++ 41 ∷ []))) t
    ∙ ap (λ w. m ++ 58 ∷ w) (append_assoc f (40 ∷ (a ++ 41 ∷ [])) t ∙ ap (λ w. f ++ 40 ∷ w) (append_assoc a (41 ∷ []) t))
    ∙ sym (append_assoc m (58 ∷ f) (40 ∷ (a ++ 41 ∷ t)))
