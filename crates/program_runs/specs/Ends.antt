-- How each run of the program ends, whatever it was asked for: before anything was written, or with what was written handed on.
use Rattle.std.specs.Prelude.{◌≡◌, ℕ, Bool, true, false, List, Option, Result, Ok, Err}
use Rattle.program_runs.specs.declared.verdict.RunFault.{RunFault}
use Rattle.program_runs.specs.declared.verdict.RunFault.TheVariants as run
use Rattle.program_runs.specs.declared.verdict.Verdict.{Verdict}

-- nothing was written
pub record WritesNothing (old new : Option (List ℕ)) (failed : Bool) : Type 0 where
  pub same : new ≡ old
  pub sound : failed ≡ false

-- the run was refused before anything was written: its input could not be read, or is no module, or the word is no schedule, or the cover, the job or a report is refused, or there was no memory to begin
abbrev pub IsRefusedBefore : Result Verdict RunFault → Type 0
IsRefusedBefore (Err (run.Input fault)) = Unit {0}
IsRefusedBefore (Err run.ReadFailed) = Unit {0}
IsRefusedBefore (Err (run.Schedule fault)) = Unit {0}
IsRefusedBefore (Err (run.Explore fault)) = Unit {0}
IsRefusedBefore (Err (run.Cover fault)) = Unit {0}
IsRefusedBefore (Err (run.Job fault)) = Unit {0}
IsRefusedBefore (Err (run.Report fault)) = Unit {0}
IsRefusedBefore _ = ⊥

-- what was written was handed on by a flush, unless the output has failed
abbrev pub IsHandedOn : Result Verdict RunFault → Bool → Type 0
IsHandedOn (Ok verdict) flushed = flushed ≡ true
IsHandedOn (Err (run.NotEnabled step)) flushed = flushed ≡ true
IsHandedOn (Err run.ReplayCutOff) flushed = flushed ≡ true
IsHandedOn (Err run.ReportCutOff) flushed = flushed ≡ true
IsHandedOn (Err run.CoverCutOff) flushed = flushed ≡ true
IsHandedOn _ flushed = Unit {0}
