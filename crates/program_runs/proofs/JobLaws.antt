-- What a listing of jobs results in, and the exploration of one.
use Rattle.std.proofs.Common.{◌≡◌, ℕ, Bool, false, List, Option, None, Some, IfSome, refl, sym, subst}
use Rattle.std.specs.Prelude.{Result, Ok, Err}
use Rattle.core_tree.specs.Syntax.{ModuleTree}
use Rattle.core_reader.specs.ModuleText.{SpellsModule}
use Rattle.core_reader.specs.Refusal.{IsRefusalOf}
use Rattle.core_tokens.specs.declared.fault.ReadFault.{ReadFault}
use Rattle.tree_coverage.specs.Jobs.{Job}
use Rattle.tree_excuses.specs.Excuses.{Excuses}
use Rattle.tree_findings.specs.declared.options.Options.{Options}
use Rattle.tree_findings.specs.declared.outcome.Outcome.{Outcome}
use Rattle.search_job_lines.specs.Faults.{IsJobFault}
use Rattle.search_job_lines.specs.Reading.{IsJobLine}
use Rattle.search_job_lines.specs.declared.fault.JobFault.{JobFault}
use Rattle.search_job_lines.specs.declared.fault.JobFault.TheVariants as job
use Rattle.report_text.specs.ReportText.{text_of_report}
use Rattle.search_crew.specs.Outcomes.{IsOutcomeOf}
use Rattle.search_crew.specs.declared.fault.SearchFault.{SearchFault}
use Rattle.search_jobs.specs.Explorations.{explored_by}
use Rattle.term_core.specs.Stream.{WritesAll, BreaksOff}
use Rattle.program_runs.specs.Explored.{verdict_of}
use Rattle.program_runs.specs.Input.{IsInputOf}
use Rattle.program_runs.specs.JobRuns.{IsJobExplored, IsJobRunOf, IsListingOf, lines_at}
use Rattle.program_runs.specs.declared.verdict.RunFault.{RunFault}
use Rattle.program_runs.specs.declared.verdict.RunFault.TheVariants as run
use Rattle.program_runs.specs.declared.verdict.Verdict.{Verdict}
use Rattle.program_runs.specs.declared.verdict.Verdict.TheVariants.{Done}
use Rattle.program_runs.proofs.ReplayLaws.{spells_all, refused_all}

-- ---- the list

-- a module that was refused
pub no_list : (remaining : Option (List ℕ)) (bytes : List ℕ) (depth : ℕ) (contents : Option (List ℕ)) (failed : Bool) (fault : ReadFault) (r : Result Verdict RunFault)
    → r ≡ Err (run.Input fault) → IfSome remaining (λ all. IsInputOf 1048576 all bytes) → IsRefusalOf bytes fault → failed ≡ false
    → IfSome remaining (λ input. IsListingOf input depth contents contents failed r)
no_list None bytes depth contents failed fault r e is refusal sound = tt
no_list (Some all) bytes depth contents failed fault r e is refusal sound =
    subst (λ (r : Result Verdict RunFault). IsListingOf all depth contents contents failed r) (sym e) (refused_all all bytes fault is refusal, record { same = refl; sound = sound })

-- no memory for the jobs
pub no_room : (remaining : Option (List ℕ)) (bytes : List ℕ) (depth : ℕ) (contents : Option (List ℕ)) (failed : Bool) (m : ModuleTree) (r : Result Verdict RunFault)
    → r ≡ Err (run.Job job.Memory) → IfSome remaining (λ all. IsInputOf 1048576 all bytes) → SpellsModule bytes m → failed ≡ false
    → IfSome remaining (λ input. IsListingOf input depth contents contents failed r)
no_room None bytes depth contents failed m r e is spelt sound = tt
no_room (Some all) bytes depth contents failed m r e is spelt sound =
    subst (λ (r : Result Verdict RunFault). IsListingOf all depth contents contents failed r) (sym e)
    (record { program = m; module_text = spells_all all bytes m is spelt; is_so = record { same = refl; sound = sound } })

-- the lines were written
pub listed : (remaining : Option (List ℕ)) (bytes : List ℕ) (depth : ℕ) (old new : Option (List ℕ)) (failed : Bool) (m : ModuleTree)
    → IfSome remaining (λ all. IsInputOf 1048576 all bytes) → SpellsModule bytes m → WritesAll old new failed (lines_at m depth)
    → IfSome remaining (λ input. IsListingOf input depth old new failed (Ok Done))
listed None bytes depth old new failed m is spelt written = tt
listed (Some all) bytes depth old new failed m is spelt written = record { program = m; module_text = spells_all all bytes m is spelt; is_so = written }

-- the output failed
pub list_broken : (remaining : Option (List ℕ)) (bytes : List ℕ) (depth : ℕ) (old new : Option (List ℕ)) (failed : Bool) (m : ModuleTree) (r : Result Verdict RunFault)
    → r ≡ Err run.Output → IfSome remaining (λ all. IsInputOf 1048576 all bytes) → SpellsModule bytes m → BreaksOff old new failed (lines_at m depth)
    → IfSome remaining (λ input. IsListingOf input depth old new failed r)
list_broken None bytes depth old new failed m r e is spelt broken = tt
list_broken (Some all) bytes depth old new failed m r e is spelt broken =
    subst (λ (r : Result Verdict RunFault). IsListingOf all depth old new failed r) (sym e)
    (record { program = m; module_text = spells_all all bytes m is spelt; is_so = broken })

-- ---- a job

-- a module that was refused
pub no_module : (remaining : Option (List ℕ)) (bytes line : List ℕ) (options : Options) (x : Excuses) (contents : Option (List ℕ)) (failed : Bool) (fault : ReadFault) (r : Result Verdict RunFault)
    → r ≡ Err (run.Input fault) → IfSome remaining (λ all. IsInputOf 1048576 all bytes) → IsRefusalOf bytes fault → failed ≡ false
    → IfSome remaining (λ input. IsJobRunOf input line options x contents contents failed r)
no_module None bytes line options x contents failed fault r e is refusal sound = tt
no_module (Some all) bytes line options x contents failed fault r e is refusal sound =
    subst (λ (r : Result Verdict RunFault). IsJobRunOf all line options x contents contents failed r) (sym e) (refused_all all bytes fault is refusal, record { same = refl; sound = sound })

-- a line that was refused
pub no_job : (remaining : Option (List ℕ)) (bytes line : List ℕ) (options : Options) (x : Excuses) (contents : Option (List ℕ)) (failed : Bool) (m : ModuleTree) (fault : JobFault) (r : Result Verdict RunFault)
    → r ≡ Err (run.Job fault) → IfSome remaining (λ all. IsInputOf 1048576 all bytes) → SpellsModule bytes m → IsJobFault (explored_by m options) line fault → failed ≡ false
    → IfSome remaining (λ input. IsJobRunOf input line options x contents contents failed r)
no_job None bytes line options x contents failed m fault r e is spelt refused sound = tt
no_job (Some all) bytes line options x contents failed m fault r e is spelt refused sound =
    subst (λ (r : Result Verdict RunFault). IsJobRunOf all line options x contents contents failed r) (sym e)
    (record { program = m; module_text = spells_all all bytes m is spelt; is_so = (refused, record { same = refl; sound = sound }) })

-- a search that was not begun
pub not_begun : (remaining : Option (List ℕ)) (bytes line : List ℕ) (options : Options) (x : Excuses) (contents : Option (List ℕ)) (failed : Bool) (m : ModuleTree) (fault : SearchFault) (r : Result Verdict RunFault)
    → r ≡ Err (run.Explore fault) → IfSome remaining (λ all. IsInputOf 1048576 all bytes) → SpellsModule bytes m → failed ≡ false
    → IfSome remaining (λ input. IsJobRunOf input line options x contents contents failed r)
not_begun None bytes line options x contents failed m fault r e is spelt sound = tt
not_begun (Some all) bytes line options x contents failed m fault r e is spelt sound =
    subst (λ (r : Result Verdict RunFault). IsJobRunOf all line options x contents contents failed r) (sym e)
    (record { program = m; module_text = spells_all all bytes m is spelt; quiet = record { same = refl; sound = sound } })

abbrev explored : (all bytes line : List ℕ) (options : Options) (m : ModuleTree) (name : Job) (outcome : Outcome) → IsInputOf 1048576 all bytes → SpellsModule bytes m
    → IsJobLine (explored_by m options) line name → IsOutcomeOf (explored_by m options) name options.nodes outcome → IsJobExplored all line options outcome
explored all bytes line options m name outcome is spelt is_line comes = record { program = m; module_text = spells_all all bytes m is spelt; name = name; is_line = is_line; is_outcome = comes }

-- the report was written
pub reported : (remaining : Option (List ℕ)) (bytes line : List ℕ) (options : Options) (x : Excuses) (old new : Option (List ℕ)) (failed : Bool) (m : ModuleTree) (name : Job) (outcome : Outcome) (verdict : Verdict)
    → IfSome remaining (λ all. IsInputOf 1048576 all bytes) → SpellsModule bytes m → IsJobLine (explored_by m options) line name → IsOutcomeOf (explored_by m options) name options.nodes outcome
    → WritesAll old new failed (text_of_report options.depth x outcome) → verdict ≡ verdict_of x outcome
    → IfSome remaining (λ input. IsJobRunOf input line options x old new failed (Ok verdict))
reported None bytes line options x old new failed m name outcome verdict is spelt is_line comes written told = tt
reported (Some all) bytes line options x old new failed m name outcome verdict is spelt is_line comes written told =
    record { outcome = outcome; explored = explored all bytes line options m name outcome is spelt is_line comes; written = written; told = told }

-- the output failed
pub broken : (remaining : Option (List ℕ)) (bytes line : List ℕ) (options : Options) (x : Excuses) (old new : Option (List ℕ)) (failed : Bool) (m : ModuleTree) (name : Job) (outcome : Outcome) (r : Result Verdict RunFault)
    → r ≡ Err run.Output → IfSome remaining (λ all. IsInputOf 1048576 all bytes) → SpellsModule bytes m → IsJobLine (explored_by m options) line name → IsOutcomeOf (explored_by m options) name options.nodes outcome
    → BreaksOff old new failed (text_of_report options.depth x outcome)
    → IfSome remaining (λ input. IsJobRunOf input line options x old new failed r)
broken None bytes line options x old new failed m name outcome r e is spelt is_line comes part = tt
broken (Some all) bytes line options x old new failed m name outcome r e is spelt is_line comes part =
    subst (λ (r : Result Verdict RunFault). IsJobRunOf all line options x old new failed r) (sym e)
    (record { outcome = outcome; explored = explored all bytes line options m name outcome is spelt is_line comes; broken = part })
