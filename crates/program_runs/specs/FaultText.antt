-- The line by which a refusal is reported, as bytes.
use Rattle.std.specs.Prelude.{ℕ, List, ◌++◌, codes}
use Rattle.std.specs.Fmt.{decimal}
use Rattle.core_tokens.specs.declared.fault.ReadFault.{ReadFault}
use Rattle.core_tokens.specs.declared.fault.ReadFault.TheVariants as read
use Rattle.term_core.specs.declared.schedule.ScheduleFault.{ScheduleFault}
use Rattle.term_core.specs.declared.schedule.ScheduleFault.TheVariants as schedule
use Rattle.search_crew.specs.declared.fault.SearchFault.TheVariants as search
use Rattle.search_job_lines.specs.declared.fault.JobFault.{JobFault}
use Rattle.search_job_lines.specs.declared.fault.JobFault.TheVariants as job
use Rattle.tree_covers.specs.declared.fault.CoverFault.{CoverFault}
use Rattle.tree_covers.specs.declared.fault.CoverFault.TheVariants as cover
use Rattle.report_reader.specs.declared.fault.ReportFault.{ReportFault}
use Rattle.report_reader.specs.declared.fault.ReportFault.TheVariants as report
use Rattle.program_runs.specs.declared.verdict.RunFault.{RunFault}
use Rattle.program_runs.specs.declared.verdict.RunFault.TheVariants as run

-- a number after words, to the end of the line
abbrev pub placed : List ℕ → ℕ → List ℕ
placed words number = words ++ (decimal number ++ codes "\n")

-- the module's refusal by its number, its name and its place
abbrev pub text_of_read_fault : ReadFault → List ℕ
text_of_read_fault (read.BadToken at) = placed (codes "input: 1 BadToken at ") at
text_of_read_fault (read.Expected at) = placed (codes "input: 2 Expected at ") at
text_of_read_fault (read.Unbound at) = placed (codes "input: 3 Unbound at ") at
text_of_read_fault (read.DuplicateVariable at) = placed (codes "input: 4 DuplicateVariable at ") at
text_of_read_fault (read.DuplicateFunction at) = placed (codes "input: 5 DuplicateFunction at ") at
text_of_read_fault (read.NoFunction at) = placed (codes "input: 6 NoFunction at ") at
text_of_read_fault (read.HigherOrder at) = placed (codes "input: 7 HigherOrder at ") at
text_of_read_fault (read.UnsupportedCall at) = placed (codes "input: 8 UnsupportedCall at ") at
text_of_read_fault (read.EffectInGuard at) = placed (codes "input: 9 EffectInGuard at ") at
text_of_read_fault (read.TooDeep at) = placed (codes "input: 10 TooDeep at ") at
text_of_read_fault (read.BadInteger at) = placed (codes "input: 11 BadInteger at ") at
text_of_read_fault (read.NotUtf8 at) = placed (codes "input: 12 NotUtf8 at ") at
text_of_read_fault (read.NoMain at) = placed (codes "input: 13 NoMain at ") at
text_of_read_fault (read.UnsupportedForm at) = placed (codes "input: 14 UnsupportedForm at ") at
text_of_read_fault read.Memory = codes "input: 15 Memory\n"
text_of_read_fault (read.TooLong at) = placed (codes "input: 16 TooLong at ") at

-- the schedule's refusal
abbrev pub text_of_schedule_fault : ScheduleFault → List ℕ
text_of_schedule_fault (schedule.BadStep at) = placed (codes "schedule: 1 BadStep at ") at
text_of_schedule_fault schedule.Memory = codes "schedule: 2 Memory\n"

-- the refusal of a cover, by the line that it is about
abbrev pub text_of_cover_fault : CoverFault → List ℕ
text_of_cover_fault (cover.Missing line) = placed (codes "cover: 1 Missing at line ") line
text_of_cover_fault (cover.Strange line) = placed (codes "cover: 2 Strange at line ") line
text_of_cover_fault (cover.Short line) = placed (codes "cover: 3 Short at line ") line
text_of_cover_fault (cover.Long line) = placed (codes "cover: 4 Long at line ") line
text_of_cover_fault (cover.ErrorFound line) = placed (codes "cover: 5 ErrorFound at line ") line
text_of_cover_fault (cover.BadLine line) = placed (codes "cover: 6 BadLine at line ") line
text_of_cover_fault cover.Memory = codes "cover: 7 Memory\n"

-- the refusal of a job's line, by the byte or the step that it is about
abbrev pub text_of_job_fault : JobFault → List ℕ
text_of_job_fault job.NoBar = codes "job: 1 NoBar\n"
text_of_job_fault (job.BadStep at) = placed (codes "job: 2 BadStep at ") at
text_of_job_fault (job.BadSleeper at) = placed (codes "job: 3 BadSleeper at ") at
text_of_job_fault job.TooLong = codes "job: 4 TooLong\n"
text_of_job_fault (job.NotEnabled step) = placed (codes "job: 5 NotEnabled at step ") step
text_of_job_fault (job.NotAsleep step) = placed (codes "job: 6 NotAsleep at step ") step
text_of_job_fault job.Memory = codes "job: 7 Memory\n"

-- the refusal of reports, by the line that it is about
abbrev pub text_of_report_fault : ReportFault → List ℕ
text_of_report_fault (report.BadLine line) = placed (codes "report: 1 BadLine at line ") line
text_of_report_fault (report.TooDeep line) = placed (codes "report: 2 TooDeep at line ") line
text_of_report_fault report.Memory = codes "report: 3 Memory\n"
text_of_report_fault report.TooManyNodes = codes "report: 4 TooManyNodes\n"

-- the line of a run's refusal
abbrev pub text_of_fault : RunFault → List ℕ
text_of_fault (run.Input fault) = text_of_read_fault fault
text_of_fault run.ReadFailed = codes "input: read failed\n"
text_of_fault (run.Schedule fault) = text_of_schedule_fault fault
text_of_fault (run.NotEnabled step) = placed (codes "replay: 1 NotEnabled at step ") step
text_of_fault run.ReplayCutOff = codes "replay: 2 Memory\n"
text_of_fault (run.Explore search.Memory) = codes "explore: 1 Memory\n"
text_of_fault (run.Explore search.NoThread) = codes "explore: 2 NoThread\n"
text_of_fault (run.Explore search.StrangePool) = codes "explore: 3 StrangePool\n"
text_of_fault (run.Cover fault) = text_of_cover_fault fault
text_of_fault (run.Job fault) = text_of_job_fault fault
text_of_fault (run.Report fault) = text_of_report_fault fault
text_of_fault run.ReportCutOff = codes "explore: 1 Memory\n"
text_of_fault run.CoverCutOff = codes "cover: 7 Memory\n"
text_of_fault run.Output = codes "output failed\n"
