-- The refusal that a fault of each part becomes.
use Rattle.core_tokens.specs.declared.fault.ReadFault.TheVariants as read
use Rattle.program_runs.specs.declared.input.InputFault.{InputFault}
use Rattle.program_runs.specs.declared.input.InputFault.TheVariants as input
use Rattle.world_replay.specs.declared.replay_fault.ReplayFault.{ReplayFault}
use Rattle.world_replay.specs.declared.replay_fault.ReplayFault.TheVariants as replay
use Rattle.program_runs.specs.declared.print_fault.PrintFault.{PrintFault}
use Rattle.program_runs.specs.declared.print_fault.PrintFault.TheVariants as printing
use Rattle.program_runs.specs.declared.verdict.RunFault.{RunFault}
use Rattle.program_runs.specs.declared.verdict.RunFault.TheVariants as run

-- the lack of memory while the input is read is one of reading the module
abbrev pub refusal_of_input : InputFault → RunFault
refusal_of_input input.ReadFailed = run.ReadFailed
refusal_of_input input.Memory = run.Input read.Memory

-- a step that is not enabled stops the replay, and so does the lack of memory; a line that could not be written is output that failed
abbrev pub refusal_of_replay : ReplayFault → RunFault
refusal_of_replay (replay.NotEnabled step) = run.NotEnabled step
refusal_of_replay replay.Memory = run.ReplayCutOff
refusal_of_replay replay.Write = run.Output

-- a report, or the cover after it, that could not be written is output that failed
abbrev pub refusal_of_printing : PrintFault → RunFault
refusal_of_printing printing.ReportCutOff = run.ReportCutOff
refusal_of_printing printing.CoverCutOff = run.CoverCutOff
refusal_of_printing printing.Write = run.Output
