-- The exit status of a run.
use Rattle.std.specs.Prelude.{ℕ, Result, Ok, Err}
use Rattle.core_tokens.specs.declared.fault.ReadFault.{ReadFault}
use Rattle.core_tokens.specs.declared.fault.ReadFault.TheVariants as read
use Rattle.term_core.specs.declared.schedule.ScheduleFault.{ScheduleFault}
use Rattle.term_core.specs.declared.schedule.ScheduleFault.TheVariants as schedule
use Rattle.search_crew.specs.declared.fault.SearchFault.TheVariants as search
use Rattle.search_job_lines.specs.declared.fault.JobFault.{JobFault}
use Rattle.search_job_lines.specs.declared.fault.JobFault.TheVariants as job
use Rattle.tree_covers.specs.declared.fault.CoverFault.{CoverFault}
use Rattle.tree_covers.specs.declared.fault.CoverFault.TheVariants as cover
use Rattle.report_reader.specs.declared.fault.ReportFault.{ReportFault}
use Rattle.report_reader.specs.declared.fault.ReportFault.TheVariants as report
use Rattle.program_runs.specs.declared.verdict.RunFault.{RunFault}
use Rattle.program_runs.specs.declared.verdict.RunFault.TheVariants as run
use Rattle.program_runs.specs.declared.verdict.Verdict.{Verdict}
use Rattle.program_runs.specs.declared.verdict.Verdict.TheVariants.{Done, Clean, Errors, Incomplete}

-- a module that was refused, or the lack of memory
abbrev pub status_of_read_fault : ReadFault → ℕ
status_of_read_fault read.Memory = 3
status_of_read_fault _ = 2

-- a schedule that was refused, or the lack of memory
abbrev pub status_of_schedule_fault : ScheduleFault → ℕ
status_of_schedule_fault (schedule.BadStep at) = 2
status_of_schedule_fault schedule.Memory = 3

-- a cover that was refused, or the lack of memory
abbrev pub status_of_cover_fault : CoverFault → ℕ
status_of_cover_fault cover.Memory = 3
status_of_cover_fault _ = 2

-- a job that was refused, or the lack of memory
abbrev pub status_of_job_fault : JobFault → ℕ
status_of_job_fault job.Memory = 3
status_of_job_fault _ = 2

-- a report that was refused, or the lack of memory
abbrev pub status_of_report_fault : ReportFault → ℕ
status_of_report_fault report.Memory = 3
status_of_report_fault _ = 2

-- of a refusal
abbrev pub status_of_fault : RunFault → ℕ
status_of_fault (run.Input fault) = status_of_read_fault fault
status_of_fault run.ReadFailed = 2
status_of_fault (run.Schedule fault) = status_of_schedule_fault fault
status_of_fault (run.NotEnabled step) = 2
status_of_fault run.ReplayCutOff = 3
status_of_fault (run.Explore search.Memory) = 3
status_of_fault (run.Explore search.NoThread) = 3
status_of_fault (run.Explore search.StrangePool) = 3
status_of_fault (run.Cover fault) = status_of_cover_fault fault
status_of_fault (run.Job fault) = status_of_job_fault fault
status_of_fault (run.Report fault) = status_of_report_fault fault
status_of_fault run.ReportCutOff = 3
status_of_fault run.CoverCutOff = 3
status_of_fault run.Output = 4

-- of what was not refused: done, the cover good, or without an error; with errors; nodes were left, or random schedules show nothing
abbrev pub status_of_verdict : Verdict → ℕ
status_of_verdict Done = 0
status_of_verdict Clean = 0
status_of_verdict Errors = 1
status_of_verdict Incomplete = 3

-- of a run
abbrev pub status_of : Result Verdict RunFault → ℕ
status_of (Ok verdict) = status_of_verdict verdict
status_of (Err fault) = status_of_fault fault
