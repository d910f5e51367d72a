-- What several outcomes result in, and the text of their reports.
use Rattle.std.specs.List.{AllByRecursion, flat_map}
use Rattle.std.specs.Prelude.{◌≡◌, ◌⊎◌, ℕ, ◌+◌, ◌≤◌, ◌^◌, List, [], ◌∷◌, ◌++◌, Option, Some, None}
use Rattle.world_model.specs.Names.{IsAmong}
use Rattle.world_model.specs.Shown.{Flags}
use Rattle.tree_coverage.specs.Findings.{Findings}
use Rattle.tree_excuses.specs.Excuses.{Excuses}
use Rattle.tree_findings.specs.Merging.{merged_findings}
use Rattle.tree_findings.specs.declared.extent.Extent.{Extent}
use Rattle.tree_findings.specs.declared.outcome.Outcome.{Outcome}
use Rattle.tree_findings.specs.declared.outcome.Outcome.TheVariants.{Complete, Incomplete}
use Rattle.report_text.specs.ReportText.{findings_in, text_of_report}
use Rattle.report_reader.specs.Lawful.{IsLawfulOutcome, IsTooHigh}
use Rattle.report_reader.specs.declared.fault.MergeFault.{MergeFault}
use Rattle.report_reader.specs.declared.fault.MergeFault.TheVariants as merge
use Rattle.report_reader.specs.declared.fault.ReportFault.{ReportFault}
use Rattle.report_reader.specs.declared.fault.ReportFault.TheVariants.{BadLine, TooDeep, Memory, TooManyNodes}

-- ---- two outcomes

-- the nodes of both, and those of both at which the tree is cut
abbrev pub sum_of : Extent → Extent → Extent
sum_of a b = record { nodes = a.nodes + b.nodes; cut = a.cut + b.cut }

-- the findings of both; where one stopped before its end, so did both, for the cause of the first that did
abbrev pub merged_outcome : Outcome → Outcome → Outcome
merged_outcome (Complete f a) (Complete g b) = Complete (merged_findings f g) (sum_of a b)
merged_outcome (Complete f a) (Incomplete cause g) = Incomplete cause (merged_findings f g)
merged_outcome (Incomplete cause f) more = Incomplete cause (merged_findings f (findings_in more))

-- a sum is 2^64 or more
abbrev pub IsTooMany : Extent → Extent → Type 0
IsTooMany a b = (2 ^ 64 ≤ a.nodes + b.nodes) ⊎ (2 ^ 64 ≤ a.cut + b.cut)

-- so it is where both visited all nodes
abbrev pub AreTooMany : Outcome → Outcome → Type 0
AreTooMany (Complete f a) (Complete g b) = IsTooMany a b
AreTooMany (Complete f a) (Incomplete cause g) = ⊥
AreTooMany (Incomplete cause f) more = ⊥

-- two outcomes are refused only then, or for lack of memory
abbrev pub MayFail : Outcome → Outcome → MergeFault → Type 0
MayFail into more merge.TooManyNodes = AreTooMany into more
MayFail into more merge.Memory = Unit {0}

-- ---- laws

-- two outcomes that reports can be read back to result in such an outcome, unless they have too many nodes
abbrev pub MergedAreLawful : Type 0
MergedAreLawful = (flags : Flags) (a b : Outcome) → IsLawfulOutcome flags a → IsLawfulOutcome flags b → (AreTooMany a b → ⊥) → IsLawfulOutcome flags (merged_outcome a b)

-- where all nodes were visited they result in the same in both orders
abbrev pub OrderDoesNotMatter : Type 0
OrderDoesNotMatter = (flags : Flags) (f g : Findings) (a b : Extent) → IsLawfulOutcome flags (Complete f a) → IsLawfulOutcome flags (Complete g b)
    → merged_outcome (Complete f a) (Complete g b) ≡ merged_outcome (Complete g b) (Complete f a)

-- and three in any grouping
abbrev pub GroupingDoesNotMatter : Type 0
GroupingDoesNotMatter = (a b c : Outcome) → merged_outcome (merged_outcome a b) c ≡ merged_outcome a (merged_outcome b c)

-- ---- several outcomes

-- the first, and then the others one after another
abbrev pub merged_all : Outcome → List Outcome → Outcome
merged_all whole [] = whole
merged_all whole (o ∷ os) = merged_all (merged_outcome whole o) os

-- the depth of the first report
abbrev pub first_depth : Option ℕ → ℕ → ℕ
first_depth None depth = depth
first_depth (Some above) depth = above

-- the reports of outcomes one after another; where a depth is given for the first, it has that one
abbrev pub text_of_reports : Option ℕ → ℕ → Excuses → List Outcome → List ℕ
text_of_reports above depth x [] = []
text_of_reports above depth x (o ∷ os) = text_of_report (first_depth above depth) x o ++ flat_map (text_of_report depth x) os

-- this is so of an outcome and of others, wherever a text is that of their reports, and they can be read back
abbrev pub WhereReports : Option ℕ → ℕ → Flags → Excuses → List ℕ → (Outcome → List Outcome → Type 0) → Type 0
WhereReports above depth flags x text IsSo = (first : Outcome) (others : List Outcome) → AllByRecursion (IsLawfulOutcome flags) (first ∷ others) → text ≡ text_of_reports above depth x (first ∷ others) → IsSo first others

-- the text is that of some reports, at least one, which result in this
pub record AreReportsOf (above : Option ℕ) (depth : ℕ) (flags : Flags) (x : Excuses) (text : List ℕ) (whole : Outcome) : Type 0 where
  pub first : Outcome
  pub others : List Outcome
  pub lawful : AllByRecursion (IsLawfulOutcome flags) (first ∷ others)
  pub text_is : text ≡ text_of_reports above depth x (first ∷ others)
  pub whole_is : whole ≡ merged_all first others

-- the nodes that one outcome reports, and several
abbrev pub nodes_told : Outcome → ℕ
nodes_told (Complete findings extent) = extent.nodes
nodes_told (Incomplete cause findings) = 0

abbrev pub all_nodes_told : List Outcome → ℕ
all_nodes_told [] = 0
all_nodes_told (o ∷ os) = nodes_told o + all_nodes_told os

-- one of them shows terms that are higher than 10,000
pub record HasOneTooHigh (outcomes : List Outcome) : Type 0 where
  pub outcome : Outcome
  pub among : IsAmong outcome outcomes
  pub high : IsTooHigh outcome

-- the text of reports is refused only for lack of memory, where one of them is so high, or where all their nodes are 2^64 or more
abbrev pub MayRefuseAll : List Outcome → ReportFault → Type 0
MayRefuseAll outcomes (BadLine line) = ⊥
MayRefuseAll outcomes (TooDeep line) = HasOneTooHigh outcomes
MayRefuseAll outcomes Memory = Unit {0}
MayRefuseAll outcomes TooManyNodes = 2 ^ 64 ≤ all_nodes_told outcomes

-- why outcomes cannot be put together, as it is answered of reports
abbrev pub fault_of_merge : MergeFault → ReportFault
fault_of_merge merge.TooManyNodes = TooManyNodes
fault_of_merge merge.Memory = Memory
