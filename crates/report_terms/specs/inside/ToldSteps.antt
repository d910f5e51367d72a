-- What one step of a schedule results in whose events are told.
use Rattle.std.specs.Prelude.{◌≡◌, ℕ, Bool, true, false, List, [], ◌∷◌, Option, Some, None, Result, Ok, Err}
use Rattle.term_core.specs.Stream.{WritesAll}
use Rattle.term_core.specs.declared.step.Step.{Step}
use Rattle.world_model.specs.Events.{Event, History}
use Rattle.world_model.specs.Requests.{Program}
use Rattle.world_model.specs.Run.{next_event}
use Rattle.tree_coverage.specs.Findings.{Finding}
use Rattle.tree_excuses.specs.Excuses.{Excuses, those_that}
use Rattle.tree_excuses.specs.declared.standing.Standing.{Standing}
use Rattle.report_text.specs.Standing.{word_of}
use Rattle.report_explained.specs.Explained.{IsExplained}
use Rattle.report_explained.specs.declared.explain_fault.ExplainFault.{ExplainFault}
use Rattle.report_terms.specs.EventTerms.{event_line}
use Rattle.report_terms.specs.TermsReport.{lines_from}

-- the line of the next event, if there is one
abbrev pub line_of_next : ℕ → Option Event → List ℕ
line_of_next number None = []
line_of_next number (Some e) = event_line number e

-- one step was taken in a world: its event was added and its line written; or it is not enabled and nothing was done; or its line was not written to its end
abbrev pub TellsStep : Program → History → ℕ → Step → (old new : Option (List ℕ)) → Bool → History → Result Bool ExplainFault → Type 0
TellsStep a h number step old new failed later (Ok true) = (e : Event) × (next_event a h step ≡ Some e) × (later ≡ e ∷ h) × WritesAll old new failed (event_line number e)
TellsStep a h number step old new failed later (Ok false) = (next_event a h step ≡ None) × (later ≡ h) × (new ≡ old) × (failed ≡ false)
TellsStep a h number step old new failed later (Err fault) = IsExplained (line_of_next number (next_event a h step)) old new failed (Err fault)

-- the errors that count, or those that are taken as normal, numbered from 1, each with what is below it
abbrev pub lines_of_errors : Program → Excuses → Standing → List Finding → List ℕ
lines_of_errors a x standing errors = lines_from a (word_of standing) 1 (those_that x standing errors)
