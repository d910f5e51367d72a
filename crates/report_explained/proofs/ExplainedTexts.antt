-- Other ways to say the texts of an explained report.
use Rattle.std.proofs.Common.{◌≡◌, ℕ, ◌+◌, ◌<◌, ◌≤◌, List, [], ◌++◌, length, map, drop, get_or, refl, sym, ap, ◌∙◌, codes}
use Rattle.std.proofs.lemmas.List.{at_drop_more, at_drop_all}
use Rattle.term_core.specs.declared.step.Step.{Step}
use Rattle.world_model.specs.Events.{History}
use Rattle.world_model.specs.Requests.{Program}
use Rattle.tree_coverage.specs.Findings as coverage
use Rattle.tree_excuses.specs.Excuses.{Excuses, counted, taken}
use Rattle.tree_findings.specs.Found.{finding_in}
use Rattle.tree_findings.specs.declared.finding.Finding.{Finding}
use Rattle.tree_findings.specs.declared.outcome.Outcome.{Outcome}
use Rattle.report_text.proofs.Listing.{IsListing}
use Rattle.report_text.specs.declared.visited.Visited.{Visited}
use Rattle.report_text.specs.ReportText.{explained_first_line_by, explained_last_line, findings_in, text_of_counts}
use Rattle.report_explained.specs.Explained.{explained_finding, explained_findings, explained_from, text_of_explained_report_by, text_of_explanation, text_of_steps, text_of_waits}
use Rattle.world_replay.specs.Replay.{reached}

-- by what was found
pub report-findings : (visited : Visited) (a : Program) (depth : ℕ) (x : Excuses) (o : Outcome) (f : coverage.Findings) → f ≡ findings_in o
    → text_of_explained_report_by visited a depth x o ≡ explained_first_line_by visited depth o ++ (explained_findings a x f ++ (text_of_counts x f ++ explained_last_line visited depth x o))
report-findings visited a depth x o f is = sym (ap (λ w. explained_first_line_by visited depth o ++ (explained_findings a x w ++ (text_of_counts x w ++ explained_last_line visited depth x o))) is)

-- by what the errors and the refusals are
pub findings-lists : (a : Program) (x : Excuses) (f : coverage.Findings) (es rs : List coverage.Finding) → es ≡ f.errors → rs ≡ f.refusals
    → explained_findings a x f ≡ explained_from a (codes "error") 1 (counted x es) ++ (explained_from a (codes "refusal") 1 rs ++ explained_from a (codes "normal") 1 (taken x es))
findings-lists a x f es rs e h =
    sym (
    ap (λ w. explained_from a (codes "error") 1 (counted x w) ++ (explained_from a (codes "refusal") 1 rs ++ explained_from a (codes "normal") 1 (taken x w))) e
    ∙ ap (λ w. explained_from a (codes "error") 1 (counted x f.errors) ++ (explained_from a (codes "refusal") 1 w ++ explained_from a (codes "normal") 1 (taken x f.errors))) h
    )

-- explained findings of a kind are one text after another
pub is_listing : (a : Program) (kind : List ℕ) → IsListing (explained_from a kind) (explained_finding a kind)
is_listing a kind = record { none = λ n. refl; more = λ n f fs. refl }

-- the text of one finding, and then of those after it
pub from-item : (a : Program) (kind : List ℕ) (fs : List Finding) (i : ℕ) (d f : Finding) → i < length fs → f ≡ get_or fs i d → explained_from a kind (i + 1) (map finding_in (drop i fs)) ≡ explained_finding a kind (i + 1) (finding_in f) ++ explained_from a kind (i + 1 + 1) (map finding_in (drop (i + 1) fs))
from-item a kind fs i d f h e =
    at_drop_more (λ (gs : List Finding). explained_from a kind (i + 1) (map finding_in gs)) fs i d h ∙ ap (λ (g : Finding). explained_finding a kind (i + 1) (finding_in g) ++ explained_from a kind (i + 1 + 1) (map finding_in (drop (i + 1) fs))) (sym e)

-- no finding is left
pub from-end : (a : Program) (kind : List ℕ) (fs : List Finding) (i : ℕ) → length fs ≤ i → explained_from a kind (i + 1) (map finding_in (drop i fs)) ≡ []
from-end a kind fs i h = at_drop_all (λ (gs : List Finding). explained_from a kind (i + 1) (map finding_in gs)) fs i h

-- what comes below a finding, by its program, its schedule and the history that this leads to
pub explanation-parts : (a b : Program) (f : coverage.Finding) (s : List Step) (h : History) → b ≡ a → s ≡ f.schedule → h ≡ reached b s → text_of_explanation a f ≡ text_of_steps (reached b s) ++ text_of_waits h f.identity
explanation-parts a b f s h same is leads =
    ap (λ c. text_of_explanation c f) (sym same)
    ∙ ap (λ t. text_of_steps (reached b t) ++ text_of_waits (reached b t) f.identity) (sym is)
    ∙ ap (λ g. text_of_steps (reached b s) ++ text_of_waits g f.identity) (sym leads)
