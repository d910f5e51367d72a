-- Where nothing is excused, all errors count.
use Rattle.std.proofs.Common.{◌≡◌, ◌∙◌, Bool, false, not, cond, List, [], ◌∷◌, ◌++◌, length, codes, refl, ap, append-nil}
use Rattle.std.specs.Fmt.{decimal}
use Rattle.world_model.specs.Shown.{Identity, End, Deadlock, Runaway, RefusedCall, Unread}
use Rattle.tree_coverage.specs.Findings.{Finding}
use Rattle.tree_excuses.specs.Excuses.{counted, is_excused, no_excuses, taken}
use Rattle.report_text.specs.NoExcuses.{NoExcusesTellNothing}
use Rattle.report_text.specs.ReportText.{text_of_findings}

none_is_excused : (i : Identity) → is_excused no_excuses i ≡ false
none_is_excused (End p reason) = refl
none_is_excused (Deadlock ps) = refl
none_is_excused (Runaway p) = refl
none_is_excused (RefusedCall p request kind arguments rule told) = refl
none_is_excused (Unread ps) = refl

all_count : (fs : List Finding) → counted no_excuses fs ≡ fs
all_count [] = refl
all_count (f ∷ fs) =
    ap (λ (b : Bool). cond (not b) (f ∷ counted no_excuses fs) (counted no_excuses fs)) (none_is_excused f.identity) ∙ ap (λ (gs : List Finding). f ∷ gs) (all_count fs)

none_is_taken : (fs : List Finding) → taken no_excuses fs ≡ []
none_is_taken [] = refl
none_is_taken (f ∷ fs) = ap (λ (b : Bool). cond b (f ∷ taken no_excuses fs) (taken no_excuses fs)) (none_is_excused f.identity) ∙ none_is_taken fs

pub no_excuses_tell_nothing : NoExcusesTellNothing
no_excuses_tell_nothing findings = (
  ap (λ (es : List Finding). text_of_findings (codes "error") es ++ (text_of_findings (codes "refusal") findings.refusals ++ text_of_findings (codes "normal") (taken no_excuses findings.errors))) (all_count findings.errors)
      ∙ ap (λ (es : List Finding). text_of_findings (codes "error") findings.errors ++ (text_of_findings (codes "refusal") findings.refusals ++ text_of_findings (codes "normal") es)) (none_is_taken findings.errors)
      ∙ ap (λ w. text_of_findings (codes "error") findings.errors ++ w) (append-nil (text_of_findings (codes "refusal") findings.refusals)),
  ap (λ (es : List Finding). codes "errors " ++ (decimal (length es) ++ (codes ", refusals " ++ (decimal (length findings.refusals) ++ codes "\n")))) (all_count findings.errors),
)
