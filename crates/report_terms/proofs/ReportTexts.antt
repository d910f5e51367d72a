-- Other ways to say the lines of a report.
use Rattle.std.proofs.Common.{◌≡◌, ℕ, ◌+◌, ◌<◌, ◌≤◌, List, [], ◌++◌, length, map, drop, get_or, refl, sym, ap, ◌∙◌, codes}
use Rattle.std.proofs.lemmas.List.{at_drop_more, at_drop_all}
use Rattle.std.specs.Fmt.{decimal}
use Rattle.term_core.specs.declared.step.Step.{Step}
use Rattle.world_model.specs.Events.{History}
use Rattle.world_model.specs.Requests.{Program}
use Rattle.tree_coverage.specs.Findings as coverage
use Rattle.tree_excuses.specs.Excuses.{Excuses, counted, taken}
use Rattle.tree_findings.specs.Found.{finding_in}
use Rattle.tree_findings.specs.declared.finding.Finding.{Finding}
use Rattle.tree_findings.specs.declared.outcome.Outcome.{Outcome}
use Rattle.report_text.proofs.Listing.{IsListing}
use Rattle.report_text.specs.declared.visited.Visited.{Visited}
use Rattle.report_text.specs.ReportText.{findings_in}
use Rattle.world_replay.specs.Replay.{reached}
use Rattle.report_terms.specs.Strings.{string_of_schedule}
use Rattle.report_terms.specs.IdentityTerms.{identity_as_term}
use Rattle.report_terms.specs.TermsReport.{counts_line, event_lines, explored_line, finding_line, lines_below, lines_from, lines_of_finding, lines_of_findings, result_line, sample_result_as_term, sample_result_line, text_of_terms_report, who_waits}

-- by what was found
pub report-findings : (visited : Visited) (a : Program) (depth : ℕ) (x : Excuses) (o : Outcome) (f : coverage.Findings) → f ≡ findings_in o
    → text_of_terms_report visited a depth x o ≡ explored_line visited depth o ++ (lines_of_findings a x f ++ (counts_line x f ++ result_line depth x o))
report-findings visited a depth x o f is = sym (ap (λ w. explored_line visited depth o ++ (lines_of_findings a x w ++ (counts_line x w ++ result_line depth x o))) is)

-- by what the errors and the refusals are
pub findings-lists : (a : Program) (x : Excuses) (f : coverage.Findings) (es rs : List coverage.Finding) → es ≡ f.errors → rs ≡ f.refusals
    → lines_of_findings a x f ≡ lines_from a (codes "error") 1 (counted x es) ++ (lines_from a (codes "refusal") 1 rs ++ lines_from a (codes "normal") 1 (taken x es))
findings-lists a x f es rs e h =
    sym (
    ap (λ w. lines_from a (codes "error") 1 (counted x w) ++ (lines_from a (codes "refusal") 1 rs ++ lines_from a (codes "normal") 1 (taken x w))) e
    ∙ ap (λ w. lines_from a (codes "error") 1 (counted x f.errors) ++ (lines_from a (codes "refusal") 1 w ++ lines_from a (codes "normal") 1 (taken x f.errors))) h
    )

-- by what the errors are, and by how many of them count, how many refusals there are, and how many errors are taken as normal
pub counts-numbers : (x : Excuses) (f : coverage.Findings) (es : List coverage.Finding) (m n k : ℕ) → es ≡ f.errors → m ≡ length (counted x es) → n ≡ length f.refusals → k ≡ length (taken x es)
    → counts_line x f ≡ codes "{counts," ++ (decimal m ++ (codes "," ++ (decimal n ++ (codes "," ++ (decimal k ++ codes "}.\n")))))
counts-numbers x f es m n k are e h t =
    sym (
    ap (λ w. codes "{counts," ++ (decimal w ++ (codes "," ++ (decimal n ++ (codes "," ++ (decimal k ++ codes "}.\n")))))) e
    ∙ ap (λ w. codes "{counts," ++ (decimal (length (counted x es)) ++ (codes "," ++ (decimal w ++ (codes "," ++ (decimal k ++ codes "}.\n")))))) h
    ∙ ap (λ w. codes "{counts," ++ (decimal (length (counted x es)) ++ (codes "," ++ (decimal (length f.refusals) ++ (codes "," ++ (decimal w ++ codes "}.\n")))))) t
    ∙ ap (λ w. codes "{counts," ++ (decimal (length (counted x w)) ++ (codes "," ++ (decimal (length f.refusals) ++ (codes "," ++ (decimal (length (taken x w)) ++ codes "}.\n")))))) are
    )

-- the last line of one of random schedules, by what the errors are
pub sample-errors : (x : Excuses) (f : coverage.Findings) (es : List coverage.Finding) → es ≡ f.errors → sample_result_line x f ≡ codes "{result," ++ (sample_result_as_term (counted x es) ++ codes "}.\n")
sample-errors x f es are = sym (ap (λ w. codes "{result," ++ (sample_result_as_term (counted x w) ++ codes "}.\n")) are)

-- by what the schedule is
pub finding-schedule : (kind : List ℕ) (number : ℕ) (f : coverage.Finding) (s : List Step) → s ≡ f.schedule
    → finding_line kind number f ≡ codes "{" ++ (kind ++ (codes "," ++ (decimal number ++ (codes "," ++ (identity_as_term f.identity ++ (codes "," ++ (string_of_schedule s ++ codes "}.\n")))))))
finding-schedule kind number f s e =
    sym (ap (λ w. codes "{" ++ (kind ++ (codes "," ++ (decimal number ++ (codes "," ++ (identity_as_term f.identity ++ (codes "," ++ (string_of_schedule w ++ codes "}.\n")))))))) e)

-- findings of a kind are one text after another
pub is_listing : (a : Program) (kind : List ℕ) → IsListing (lines_from a kind) (lines_of_finding a kind)
is_listing a kind = record { none = λ n. refl; more = λ n f fs. refl }

-- the lines of one finding, and then of those after it
pub from-item : (a : Program) (kind : List ℕ) (fs : List Finding) (i : ℕ) (d f : Finding) → i < length fs → f ≡ get_or fs i d → lines_from a kind (i + 1) (map finding_in (drop i fs)) ≡ lines_of_finding a kind (i + 1) (finding_in f) ++ lines_from a kind (i + 1 + 1) (map finding_in (drop (i + 1) fs))
from-item a kind fs i d f h e =
    at_drop_more (λ (gs : List Finding). lines_from a kind (i + 1) (map finding_in gs)) fs i d h ∙ ap (λ (g : Finding). lines_of_finding a kind (i + 1) (finding_in g) ++ lines_from a kind (i + 1 + 1) (map finding_in (drop (i + 1) fs))) (sym e)

-- no finding is left
pub from-end : (a : Program) (kind : List ℕ) (fs : List Finding) (i : ℕ) → length fs ≤ i → lines_from a kind (i + 1) (map finding_in (drop i fs)) ≡ []
from-end a kind fs i h = at_drop_all (λ (gs : List Finding). lines_from a kind (i + 1) (map finding_in gs)) fs i h

-- what comes below a finding, by its program, its schedule and the history that this leads to
pub below-parts : (a b : Program) (f : coverage.Finding) (s : List Step) (h : History) → b ≡ a → s ≡ f.schedule → h ≡ reached b s → lines_below a f ≡ event_lines (reached b s) ++ who_waits h f.identity
below-parts a b f s h same is leads =
    ap (λ c. lines_below c f) (sym same)
    ∙ ap (λ t. event_lines (reached b t) ++ who_waits (reached b t) f.identity) (sym is)
    ∙ ap (λ g. event_lines (reached b s) ++ who_waits g f.identity) (sym leads)
