-- What was written of a report alone.
use Rattle.std.specs.Prelude.{◌≡◌, ℕ, Bool, true, false, List, Option, Result, Ok, Err}
use Rattle.term_core.specs.Stream.{AppendsBeginning, BreaksOff, WritesAll}
use Rattle.program_runs.specs.declared.print_fault.PrintFault.{PrintFault}
use Rattle.program_runs.specs.declared.print_fault.PrintFault.TheVariants.{ReportCutOff, CoverCutOff, Write}

-- the whole text; or memory ran out where it is explained, and the sink, which is sound, got a beginning of it; or the sink has failed within it
abbrev pub IsReportWritten : Bool → List ℕ → (old new : Option (List ℕ)) → Bool → Result (Unit {0}) PrintFault → Type 0
IsReportWritten explained text old new failed (Ok done) = WritesAll old new failed text
IsReportWritten explained text old new failed (Err ReportCutOff) = (explained ≡ true) × (failed ≡ false) × AppendsBeginning old new text
IsReportWritten explained text old new failed (Err CoverCutOff) = ⊥
IsReportWritten explained text old new failed (Err Write) = BreaksOff old new failed text
