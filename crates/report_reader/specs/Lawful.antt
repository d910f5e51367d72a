-- The outcomes that a report can be read back to, those that may be refused, and the lines of a text.
use Rattle.std.specs.List.{AllByRecursion}
use Rattle.std.specs.Prelude.{◌≡◌, ◌⊎◌, ℕ, ◌<◌, ◌^◌, Bool, true, List}
use Rattle.term_core.specs.Schedule.{AreLawful}
use Rattle.world_model.specs.Names.{IsAmong}
use Rattle.world_model.specs.Shown.{Identity, Flags, is_error, is_refusal}
use Rattle.tree_coverage.specs.Findings.{Finding, AreSorted}
use Rattle.tree_findings.specs.declared.outcome.Outcome.{Outcome}
use Rattle.tree_findings.specs.declared.outcome.Outcome.TheVariants.{Complete, Incomplete}
use Rattle.report_text.specs.ReportText.{findings_in}
use Rattle.report_identities.specs.Lawful.{IsLawfulIdentity, height_in}
use Rattle.report_reader.specs.Lines.{IsLine}
use Rattle.report_reader.specs.declared.fault.ReportFault.{ReportFault}
use Rattle.report_reader.specs.declared.fault.ReportFault.TheVariants.{BadLine, TooDeep, Memory, TooManyNodes}

-- what is shown and the schedule that shows it are such as texts report
pub record IsLawfulFinding (f : Finding) : Type 0 where
  pub identity : IsLawfulIdentity f.identity
  pub schedule : AreLawful f.schedule

-- such findings in the order of identities, each identity once, which all pass a test
pub record AreLawfulFindings (test : Identity → Bool) (fs : List Finding) : Type 0 where
  pub sorted : AreSorted fs
  pub lawful : AllByRecursion IsLawfulFinding fs
  pub pass : AllByRecursion (λ f. test f.identity ≡ true) fs

-- the nodes are below 2^64; a plain report does not say at how many of them the tree is cut
abbrev pub IsLawfulExtent : Outcome → Type 0
IsLawfulExtent (Complete findings extent) = (extent.nodes < 2 ^ 64) × (extent.cut ≡ 0)
IsLawfulExtent (Incomplete cause findings) = Unit {0}

-- errors under the flags, refusals, and so many nodes
pub record IsLawfulOutcome (flags : Flags) (outcome : Outcome) : Type 0 where
  pub errors : AreLawfulFindings (is_error flags) (findings_in outcome).errors
  pub refusals : AreLawfulFindings is_refusal (findings_in outcome).refusals
  pub extent : IsLawfulExtent outcome

-- one of several findings shows terms that are higher than 10,000
pub record HasHigh (fs : List Finding) : Type 0 where
  pub finding : Finding
  pub among : IsAmong finding fs
  pub high : 10000 < height_in finding.identity

-- an error does, or a refusal
abbrev pub IsTooHigh : Outcome → Type 0
IsTooHigh outcome = HasHigh (findings_in outcome).errors ⊎ HasHigh (findings_in outcome).refusals

-- the line that a fault names is one of the text
abbrev pub HasLine : List ℕ → ReportFault → Type 0
HasLine text (BadLine line) = IsLine text line
HasLine text (TooDeep line) = IsLine text line
HasLine text Memory = Unit {0}
HasLine text TooManyNodes = Unit {0}
