-- What one step of an explained schedule results in.
use Rattle.std.specs.Prelude.{◌≡◌, ℕ, Bool, true, false, List, ◌∷◌, Option, Some, None, Result, Ok, Err}
use Rattle.term_core.specs.Stream.{BreaksOff, WritesAll}
use Rattle.term_core.specs.declared.step.Step.{Step}
use Rattle.world_model.specs.Events.{Event, History}
use Rattle.world_model.specs.Requests.{Program}
use Rattle.world_model.specs.Run.{next_event}
use Rattle.tree_coverage.specs.Findings.{Finding}
use Rattle.tree_excuses.specs.Excuses.{Excuses, those_that}
use Rattle.tree_excuses.specs.declared.standing.Standing.{Standing}
use Rattle.world_event_text.specs.EventText.{text_of_event}
use Rattle.report_text.specs.Standing.{word_of}
use Rattle.report_explained.specs.Explained.{explained_from, indented}
use Rattle.report_explained.specs.declared.explain_fault.ExplainFault.{ExplainFault}
use Rattle.report_explained.specs.declared.explain_fault.ExplainFault.TheVariants.{Memory, Write}

-- one step was taken in a world: its event was added and its line written; or it is not enabled and nothing was done; or memory ran out; or the line broke off
abbrev pub ExplainsStep : Program → History → ℕ → Step → (old new : Option (List ℕ)) → Bool → History → Result Bool ExplainFault → Type 0
ExplainsStep a h number step old new failed later (Ok true) = (e : Event) × (next_event a h step ≡ Some e) × (later ≡ e ∷ h) × WritesAll old new failed (indented (text_of_event number e))
ExplainsStep a h number step old new failed later (Ok false) = (next_event a h step ≡ None) × (later ≡ h) × (new ≡ old) × (failed ≡ false)
ExplainsStep a h number step old new failed later (Err Memory) = (new ≡ old) × (failed ≡ false)
ExplainsStep a h number step old new failed later (Err Write) = (e : Event) × (next_event a h step ≡ Some e) × BreaksOff old new failed (indented (text_of_event number e))

-- the errors that count, or those that are taken as normal, numbered from 1, each with what is below it
abbrev pub explained_errors : Program → Excuses → Standing → List Finding → List ℕ
explained_errors a x standing errors = explained_from a (word_of standing) 1 (those_that x standing errors)
