-- What comes of reports that are put together, by the bytes that the program is given, and when that is the report of a tree.
use Rattle.std.specs.List.{AllByRecursion}
use Rattle.std.specs.List.Sorted.{IsPermutation}
use Rattle.std.specs.Prelude.{◌≡◌, ℕ, zero, suc, ◌≤◌, ◌<◌, ◌^◌, Bool, List, [], ◌∷◌, Option, Some, None, Result, Ok, Err}
use Rattle.core_tokens.specs.declared.fault.ReadFault.TheVariants as read
use Rattle.core_tree.specs.Syntax.{ModuleTree}
use Rattle.tree_coverage.specs.Findings.{Finding}
use Rattle.tree_coverage.specs.Jobs.{Job}
use Rattle.tree_excuses.specs.Excuses.{Excuses}
use Rattle.tree_findings.specs.declared.outcome.Outcome.{Outcome}
use Rattle.tree_findings.specs.declared.outcome.Outcome.TheVariants.{Complete, Incomplete}
use Rattle.report_identities.specs.Lawful.{IsLawfulIdentity}
use Rattle.report_reader.specs.BadLines.{NamesFirstBadLine}
use Rattle.report_reader.specs.Lawful.{HasLine, IsLawfulOutcome}
use Rattle.report_reader.specs.Merged.{AreReportsOf, MayRefuseAll, text_of_reports}
use Rattle.report_reader.specs.declared.fault.ReportFault.{ReportFault}
use Rattle.report_text.specs.ReportText.{findings_in, text_of_report}
use Rattle.search_crew.specs.Outcomes.{IsOutcome, IsOutcomeOf}
use Rattle.search_jobs.specs.Explorations.{ExplorationSeen, program_in}
use Rattle.term_core.specs.Stream.{WritesAll, BreaksOff}
use Rattle.tree_levels.specs.Levels.{jobs_at}
use Rattle.world_model.specs.Shown.{Flags}
use Rattle.program_runs.specs.Ends.{WritesNothing}
use Rattle.program_runs.specs.Explored.{verdict_of}
use Rattle.program_runs.specs.declared.verdict.RunFault.{RunFault}
use Rattle.program_runs.specs.declared.verdict.RunFault.TheVariants as run
use Rattle.program_runs.specs.declared.verdict.Verdict.{Verdict}

-- the depth of the tree above jobs at a depth; at depth 0 there is nothing above
abbrev pub depth_above : ℕ → Option ℕ
depth_above zero = None
depth_above (suc depth) = Some depth

-- ---- what was put together

-- the whole report was written of what the reports result in
pub record AreMerged (input : List ℕ) (depth at : ℕ) (flags : Flags) (x : Excuses) (old new : Option (List ℕ)) (failed : Bool) (verdict : Verdict) : Type 0 where
  pub outcome : Outcome
  pub reports : AreReportsOf (depth_above at) depth flags x input outcome
  pub written : WritesAll old new failed (text_of_report depth x outcome)
  pub told : verdict ≡ verdict_of x outcome

-- the output failed within it
pub record AreMergedInPart (input : List ℕ) (depth at : ℕ) (flags : Flags) (x : Excuses) (old new : Option (List ℕ)) (failed : Bool) : Type 0 where
  pub outcome : Outcome
  pub reports : AreReportsOf (depth_above at) depth flags x input outcome
  pub broken : BreaksOff old new failed (text_of_report depth x outcome)

-- the line that a refusal names is one of the input, and a bad line the first that reports cannot have; where the input has reports, it is refused only for lack of memory, or for a term or a number of nodes that is too large
pub record AreNoReports (input : List ℕ) (depth at : ℕ) (flags : Flags) (x : Excuses) (fault : ReportFault) : Type 0 where
  pub line : HasLine input fault
  pub first_bad : NamesFirstBadLine (depth_above at) depth flags x input fault
  pub only : (first : Outcome) (others : List Outcome) → AllByRecursion (IsLawfulOutcome flags) (first ∷ others) → input ≡ text_of_reports (depth_above at) depth x (first ∷ others) → MayRefuseAll (first ∷ others) fault

-- the report of what they result in was written; or a report was refused, or the input could not be read, or there was no memory for it, and nothing was written; or the output failed, at a write or at the flush
abbrev pub IsMergeOf : List ℕ → (depth at : ℕ) → Flags → Excuses → (old new : Option (List ℕ)) → Bool → Result Verdict RunFault → Type 0
IsMergeOf input depth at flags x old new failed (Ok verdict) = AreMerged input depth at flags x old new failed verdict
IsMergeOf input depth at flags x old new failed (Err (run.Input read.Memory)) = WritesNothing old new failed
IsMergeOf input depth at flags x old new failed (Err run.ReadFailed) = WritesNothing old new failed
IsMergeOf input depth at flags x old new failed (Err (run.Report fault)) = AreNoReports input depth at flags x fault × WritesNothing old new failed
IsMergeOf input depth at flags x old new failed (Err run.Output) = AreMergedInPart input depth at flags x old new failed
IsMergeOf input depth at flags x old new failed _ = ⊥

-- ---- a tree in parts

-- all nodes were visited
abbrev pub IsComplete : Outcome → Type 0
IsComplete (Complete findings extent) = Unit {0}
IsComplete (Incomplete cause findings) = ⊥

-- what a search of the tree that visited all nodes results in, within some limit that can be given
pub record IsWholeTree (e : ExplorationSeen) (o : Outcome) : Type 0 where
  pub limit : ℕ
  pub fits : limit < 2 ^ 64
  pub outcome : IsOutcome e limit o
  pub complete : IsComplete o

-- and one of a job
pub record IsWholeJob (e : ExplorationSeen) (job : Job) (o : Outcome) : Type 0 where
  pub limit : ℕ
  pub fits : limit < 2 ^ 64
  pub outcome : IsOutcomeOf e job limit o
  pub complete : IsComplete o

-- one for each job
abbrev pub AreWholeJobs : ExplorationSeen → List Job → List Outcome → Type 0
AreWholeJobs e [] [] = Unit {0}
AreWholeJobs e (job ∷ jobs) (o ∷ os) = IsWholeJob e job o × AreWholeJobs e jobs os
AreWholeJobs e _ _ = ⊥

-- one for each job at a depth, in whatever order
pub record AreAllJobs (e : ExplorationSeen) (at : ℕ) (os : List Outcome) : Type 0 where
  pub jobs : List Job
  pub all : IsPermutation jobs (jobs_at (program_in e) at)
  pub outcomes : AreWholeJobs e jobs os

-- the exploration to another depth
abbrev pub to_depth : ExplorationSeen → ℕ → ExplorationSeen
to_depth e depth = record { program = e.program; depth = depth; flags = e.flags }

-- one of the tree above the jobs at a depth, and one for each of them; where nothing is above, that of the one job
abbrev pub AreParts : ExplorationSeen → ℕ → Outcome → List Outcome → Type 0
AreParts e zero first others = AreAllJobs e 0 (first ∷ others)
AreParts e (suc above) first others = (suc above ≤ e.depth) × IsWholeTree (to_depth e above) first × AreAllJobs e (suc above) others

-- texts may have what these findings show: its numbers have 64 bits, and its atoms are UTF-8
abbrev pub AreToldOf : List Finding → Type 0
AreToldOf fs = AllByRecursion (λ f. IsLawfulIdentity f.identity) fs

-- so it is of the errors and the refusals of an outcome
abbrev pub MayBeTold : Outcome → Type 0
MayBeTold o = AreToldOf (findings_in o).errors × AreToldOf (findings_in o).refusals

-- where the input has the reports of the parts of a tree, what was written is the report of the tree
abbrev pub ComesToTree : List ℕ → (depth at : ℕ) → Flags → Excuses → (old new : Option (List ℕ)) → Bool → Result Verdict RunFault → Type 0
ComesToTree input depth at flags x old new failed (Ok verdict) = (m : ModuleTree) (first : Outcome) (others : List Outcome) (whole : Outcome)
    → AreParts (record { program = m; depth = depth; flags = flags }) at first others
    → AllByRecursion MayBeTold (first ∷ others)
    → input ≡ text_of_reports (depth_above at) depth x (first ∷ others)
    → IsWholeTree (record { program = m; depth = depth; flags = flags }) whole
    → WritesAll old new failed (text_of_report depth x whole) × (verdict ≡ verdict_of x whole)
ComesToTree input depth at flags x old new failed (Err fault) = Unit {0}
