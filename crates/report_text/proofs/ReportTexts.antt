-- Other ways to say the texts of findings, and of reports.
use Rattle.std.proofs.Common.{arith, ◌≡◌, ℕ, ◌+◌, ◌<◌, ◌≤◌, List, [], ◌∷◌, ◌++◌, length, map, drop, get_or, refl, sym, ap, ◌∙◌, codes}
use Rattle.std.proofs.lemmas.List.{at_drop_more, at_drop_all}
use Rattle.std.specs.Fmt.{decimal}
use Rattle.term_core.specs.Text.{text_of_schedule}
use Rattle.term_core.specs.declared.step.Step.{Step}
use Rattle.tree_coverage.specs.Findings as coverage
use Rattle.tree_excuses.specs.Excuses.{Excuses, counted, taken}
use Rattle.tree_findings.specs.Found.{finding_in}
use Rattle.tree_findings.specs.declared.finding.Finding.{Finding}
use Rattle.tree_findings.specs.declared.outcome.Outcome.{Outcome}
use Rattle.report_text.specs.declared.visited.Visited.{Visited}
use Rattle.report_text.specs.IdentityText.{text_of_identity}
use Rattle.report_text.proofs.Listing.{IsListing}
use Rattle.report_text.specs.SampleText.{sample_last_line, sample_result}
use Rattle.report_text.specs.ReportText.{findings_in, first_line_by, text_of_finding, findings_from, text_of_findings, text_of_all, text_of_counts, text_of_normal, text_of_taken, complete_result, last_line, text_of_report_by}

-- by what the errors and the refusals are
pub text_of_all-lists : (x : Excuses) (f : coverage.Findings) (es rs : List coverage.Finding) → es ≡ f.errors → rs ≡ f.refusals
    → text_of_all x f ≡ text_of_findings (codes "error") (counted x es) ++ (text_of_findings (codes "refusal") rs ++ text_of_findings (codes "normal") (taken x es))
text_of_all-lists x f es rs e h =
    sym (
    ap (λ w. text_of_findings (codes "error") (counted x w) ++ (text_of_findings (codes "refusal") rs ++ text_of_findings (codes "normal") (taken x w))) e
    ∙ ap (λ w. text_of_findings (codes "error") (counted x f.errors) ++ (text_of_findings (codes "refusal") w ++ text_of_findings (codes "normal") (taken x f.errors))) h
    )

-- by what the errors are, and by how many of them count and how many refusals there are
pub text_of_counts-numbers : (x : Excuses) (f : coverage.Findings) (es : List coverage.Finding) (m n : ℕ) → es ≡ f.errors → m ≡ length (counted x es) → n ≡ length f.refusals
    → text_of_counts x f ≡ codes "errors " ++ (decimal m ++ (codes ", refusals " ++ (decimal n ++ (text_of_normal x es ++ codes "\n"))))
text_of_counts-numbers x f es m n are e h =
    sym (
    ap (λ w. codes "errors " ++ (decimal w ++ (codes ", refusals " ++ (decimal n ++ (text_of_normal x es ++ codes "\n"))))) e
    ∙ ap (λ w. codes "errors " ++ (decimal (length (counted x es)) ++ (codes ", refusals " ++ (decimal w ++ (text_of_normal x es ++ codes "\n"))))) h
    ∙ ap (λ w. codes "errors " ++ (decimal (length (counted x w)) ++ (codes ", refusals " ++ (decimal (length f.refusals) ++ (text_of_normal x w ++ codes "\n"))))) are
    )

-- by how many they are
pub text_of_taken-number : (fs : List coverage.Finding) (n : ℕ) → n ≡ length fs → text_of_taken fs ≡ codes ", taken as normal " ++ decimal n
text_of_taken-number fs n e = ap (λ w. codes ", taken as normal " ++ decimal w) (sym e)

-- by what was found
pub text_of_report-findings : (visited : Visited) (depth : ℕ) (x : Excuses) (o : Outcome) (f : coverage.Findings) → f ≡ findings_in o
    → text_of_report_by visited depth x o ≡ first_line_by visited depth o ++ (text_of_all x f ++ (text_of_counts x f ++ last_line x o))
text_of_report-findings visited depth x o f e = sym (ap (λ w. first_line_by visited depth o ++ (text_of_all x w ++ (text_of_counts x w ++ last_line x o))) e)

-- the last line of one of random schedules, by what the errors are
pub sample_last_line-errors : (x : Excuses) (f : coverage.Findings) (es : List coverage.Finding) → es ≡ f.errors → sample_last_line x f ≡ codes "result: " ++ (sample_result (counted x es) ++ codes "\n")
sample_last_line-errors x f es are = sym (ap (λ w. codes "result: " ++ (sample_result (counted x w) ++ codes "\n")) are)

-- by what the schedule is
pub text_of_finding-schedule : (kind : List ℕ) (number : ℕ) (f : coverage.Finding) (s : List Step) → s ≡ f.schedule → text_of_finding kind number f ≡ kind ++ (codes " " ++ (decimal number ++ (codes ": " ++ (text_of_identity f.identity ++ (codes "\n  " ++ (text_of_schedule s ++ codes "\n"))))))
text_of_finding-schedule kind number f s e = sym (ap (λ w. kind ++ (codes " " ++ (decimal number ++ (codes ": " ++ (text_of_identity f.identity ++ (codes "\n  " ++ (text_of_schedule w ++ codes "\n"))))))) e)

-- the text of one finding, and then of those after it
pub findings_from-item : (kind : List ℕ) (fs : List Finding) (i : ℕ) (d f : Finding) → i < length fs → f ≡ get_or fs i d → findings_from kind (i + 1) (map finding_in (drop i fs)) ≡ text_of_finding kind (i + 1) (finding_in f) ++ findings_from kind (i + 1 + 1) (map finding_in (drop (i + 1) fs))
findings_from-item kind fs i d f h e =
    at_drop_more (λ (gs : List Finding). findings_from kind (i + 1) (map finding_in gs)) fs i d h ∙ ap (λ (g : Finding). text_of_finding kind (i + 1) (finding_in g) ++ findings_from kind (i + 1 + 1) (map finding_in (drop (i + 1) fs))) (sym e)

-- no finding is left
pub findings_from-end : (kind : List ℕ) (fs : List Finding) (i : ℕ) → length fs ≤ i → findings_from kind (i + 1) (map finding_in (drop i fs)) ≡ []
findings_from-end kind fs i h = at_drop_all (λ (gs : List Finding). findings_from kind (i + 1) (map finding_in gs)) fs i h

-- where there are no errors
pub complete_result-none : (fs : List coverage.Finding) → length fs ≡ 0 → complete_result fs ≡ codes "clean"
complete_result-none [] e = refl
complete_result-none (f ∷ fs) e = absurd (omega (arith, e))

-- where there are errors
pub complete_result-some : (fs : List coverage.Finding) → (length fs ≡ 0 → ⊥) → complete_result fs ≡ codes "errors"
complete_result-some [] n = absurd (n refl)
complete_result-some (f ∷ fs) n = refl

-- findings of a kind are one text after another
pub is_listing : (kind : List ℕ) → IsListing (findings_from kind) (text_of_finding kind)
is_listing kind = record { none = λ n. refl; more = λ n f fs. refl }
