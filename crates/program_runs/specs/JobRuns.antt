-- What comes of the jobs of a module, by the bytes that the program is given: their list, and the exploration of one.
use Rattle.std.specs.Prelude.{◌≡◌, ℕ, Bool, List, Option, Result, Ok, Err}
use Rattle.core_tree.specs.Syntax.{ModuleTree}
use Rattle.core_reader.specs.ModuleText.{SpellsModule}
use Rattle.core_reader.specs.Refusal.{IsRefusalOf}
use Rattle.tree_coverage.specs.Jobs.{Job}
use Rattle.tree_excuses.specs.Excuses.{Excuses}
use Rattle.tree_findings.specs.declared.options.Options.{Options}
use Rattle.tree_findings.specs.declared.outcome.Outcome.{Outcome}
use Rattle.search_job_lines.specs.JobText.{text_of_jobs}
use Rattle.search_job_lines.specs.Faults.{IsJobFault}
use Rattle.search_job_lines.specs.Reading.{IsJobLine}
use Rattle.search_job_lines.specs.declared.fault.JobFault.TheVariants as job
use Rattle.report_text.specs.ReportText.{text_of_report}
use Rattle.search_crew.specs.Outcomes.{IsOutcomeOf}
use Rattle.search_jobs.specs.Explorations.{explored_by}
use Rattle.term_core.specs.Stream.{WritesAll, BreaksOff}
use Rattle.tree_levels.specs.Levels.{jobs_at}
use Rattle.world_model.specs.Asking.{program_of}
use Rattle.program_runs.specs.Ends.{WritesNothing}
use Rattle.program_runs.specs.Explored.{HasNoOutcome, verdict_of}
use Rattle.program_runs.specs.declared.verdict.RunFault.{RunFault}
use Rattle.program_runs.specs.declared.verdict.RunFault.TheVariants as run
use Rattle.program_runs.specs.declared.verdict.Verdict.{Verdict}
use Rattle.program_runs.specs.declared.verdict.Verdict.TheVariants.{Done}

-- the input is the text of a module for which this is true
pub record IsModuleThat (input : List ℕ) (Is : ModuleTree → Type 0) : Type 0 where
  pub program : ModuleTree
  pub module_text : SpellsModule input program
  pub is_so : Is program

-- ---- their list

-- the lines of the jobs at a depth
abbrev pub lines_at : ModuleTree → ℕ → List ℕ
lines_at m depth = text_of_jobs (jobs_at (program_of m) depth)

-- the lines of all jobs at the depth were written; or the input was refused as a module, or could not be read, or there was no memory for the jobs, and nothing was written; or the output failed, at a write or at the flush
abbrev pub IsListingOf : List ℕ → ℕ → (old new : Option (List ℕ)) → Bool → Result Verdict RunFault → Type 0
IsListingOf input depth old new failed (Ok Done) = IsModuleThat input (λ m. WritesAll old new failed (lines_at m depth))
IsListingOf input depth old new failed (Err (run.Input fault)) = IsRefusalOf input fault × WritesNothing old new failed
IsListingOf input depth old new failed (Err run.ReadFailed) = WritesNothing old new failed
IsListingOf input depth old new failed (Err (run.Job job.Memory)) = IsModuleThat input (λ m. WritesNothing old new failed)
IsListingOf input depth old new failed (Err run.Output) = IsModuleThat input (λ m. BreaksOff old new failed (lines_at m depth))
IsListingOf input depth old new failed _ = ⊥

-- ---- one of them

-- the input is a module, the line is that of a job of it, and the search of its nodes resulted in this
pub record IsJobExplored (input line : List ℕ) (options : Options) (outcome : Outcome) : Type 0 where
  pub program : ModuleTree
  pub module_text : SpellsModule input program
  pub name : Job
  pub is_line : IsJobLine (explored_by program options) line name
  pub is_outcome : IsOutcomeOf (explored_by program options) name options.nodes outcome

-- the whole report of the job was written
pub record IsJobReportOf (input line : List ℕ) (options : Options) (x : Excuses) (old new : Option (List ℕ)) (failed : Bool) (verdict : Verdict) : Type 0 where
  pub outcome : Outcome
  pub explored : IsJobExplored input line options outcome
  pub written : WritesAll old new failed (text_of_report options.depth x outcome)
  pub told : verdict ≡ verdict_of x outcome

-- the output failed within it
pub record IsJobReportBroken (input line : List ℕ) (options : Options) (x : Excuses) (old new : Option (List ℕ)) (failed : Bool) : Type 0 where
  pub outcome : Outcome
  pub explored : IsJobExplored input line options outcome
  pub broken : BreaksOff old new failed (text_of_report options.depth x outcome)

-- the report of the job was written; or the input was refused as a module, or could not be read, or the line was refused, or the search has no outcome, and nothing was written; or the output failed, at a write or at the flush
abbrev pub IsJobRunOf : (input line : List ℕ) → Options → Excuses → (old new : Option (List ℕ)) → Bool → Result Verdict RunFault → Type 0
IsJobRunOf input line options x old new failed (Ok verdict) = IsJobReportOf input line options x old new failed verdict
IsJobRunOf input line options x old new failed (Err (run.Input fault)) = IsRefusalOf input fault × WritesNothing old new failed
IsJobRunOf input line options x old new failed (Err run.ReadFailed) = WritesNothing old new failed
IsJobRunOf input line options x old new failed (Err (run.Explore fault)) = HasNoOutcome input old new failed
IsJobRunOf input line options x old new failed (Err (run.Job fault)) = IsModuleThat input (λ m. IsJobFault (explored_by m options) line fault × WritesNothing old new failed)
IsJobRunOf input line options x old new failed (Err run.Output) = IsJobReportBroken input line options x old new failed
IsJobRunOf input line options x old new failed _ = ⊥
