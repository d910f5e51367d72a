-- Which line of a text is the first that reports cannot have.
use Rattle.std.specs.List.{AllByRecursion}
use Rattle.std.specs.Prelude.{◌≡◌, ℕ, ◌-◌, List, ◌∷◌, Option}
use Rattle.world_model.specs.Shown.{Flags}
use Rattle.tree_excuses.specs.Excuses.{Excuses}
use Rattle.tree_findings.specs.declared.outcome.Outcome.{Outcome}
use Rattle.report_reader.specs.Lawful.{IsLawfulOutcome}
use Rattle.report_reader.specs.Lines.{first_lines}
use Rattle.report_reader.specs.Merged.{text_of_reports}
use Rattle.report_reader.specs.declared.fault.ReportFault.{ReportFault}
use Rattle.report_reader.specs.declared.fault.ReportFault.TheVariants.{BadLine, TooDeep, Memory, TooManyNodes}

-- the text is that of some reports, at least one, of outcomes that reports can be read back to
pub record AreReports (above : Option ℕ) (depth : ℕ) (flags : Flags) (x : Excuses) (text : List ℕ) : Type 0 where
  pub first : Outcome
  pub others : List Outcome
  pub lawful : AllByRecursion (IsLawfulOutcome flags) (first ∷ others)
  pub text_is : text ≡ text_of_reports above depth x (first ∷ others)

-- no text with the same lines up to this one is that of reports, and one with the same lines before it is
pub record IsFirstBadLine (above : Option ℕ) (depth : ℕ) (flags : Flags) (x : Excuses) (text : List ℕ) (line : ℕ) : Type 0 where
  pub bad : (other : List ℕ) → first_lines other line ≡ first_lines text line → AreReports above depth flags x other → ⊥
  pub good : List ℕ
  pub before : first_lines good (line - 1) ≡ first_lines text (line - 1)
  pub reports : AreReports above depth flags x good

-- a line that is named as bad is the first bad one
abbrev pub NamesFirstBadLine : Option ℕ → ℕ → Flags → Excuses → List ℕ → ReportFault → Type 0
NamesFirstBadLine above depth flags x text (BadLine line) = IsFirstBadLine above depth flags x text line
NamesFirstBadLine above depth flags x text (TooDeep line) = Unit {0}
NamesFirstBadLine above depth flags x text Memory = Unit {0}
NamesFirstBadLine above depth flags x text TooManyNodes = Unit {0}
