-- What was written of what an exploration prints.
use Rattle.std.specs.Prelude.{◌≡◌, ℕ, Bool, true, false, List, ◌++◌, Option, Result, Ok, Err}
use Rattle.std.specs.Io.KnownBytes.{Appends}
use Rattle.tree_covers.specs.declared.fault.WriteCoverFault.{WriteCoverFault}
use Rattle.tree_covers.specs.declared.fault.WriteCoverFault.TheVariants as cover
use Rattle.report_explained.specs.declared.explain_fault.ExplainFault.{ExplainFault}
use Rattle.report_explained.specs.declared.explain_fault.ExplainFault.TheVariants as explain
use Rattle.term_core.specs.Stream.{AppendsBeginning, BreaksOff, WritesAll}
use Rattle.program_runs.specs.declared.print_fault.PrintFault.{PrintFault}
use Rattle.program_runs.specs.declared.print_fault.PrintFault.TheVariants.{ReportCutOff, CoverCutOff, Write}

-- what is to be printed: the text of the report, and whether it is explained, in text or in terms; the text after it, and whether that is a cover
pub record Print : Type 0 where
  pub report : List ℕ
  pub is_explained : Bool
  pub behind : List ℕ
  pub is_cover : Bool

-- all of it
abbrev pub text_of_print : Print → List ℕ
text_of_print p = p.report ++ p.behind

-- the sink got the whole of one text and a beginning of the next
pub record AppendsInto (old new : Option (List ℕ)) (front behind : List ℕ) : Type 0 where
  pub written : List ℕ
  pub unwritten : List ℕ
  pub parts : behind ≡ written ++ unwritten
  pub appends : Appends old new (front ++ written)

-- memory ran out for a report that is explained, and the sink, which is sound, got a beginning of it
pub record IsReportCutOff (p : Print) (old new : Option (List ℕ)) (failed : Bool) : Type 0 where
  pub explained : p.is_explained ≡ true
  pub sound : failed ≡ false
  pub begun : AppendsBeginning old new p.report

-- memory ran out for a cover, and the sink, which is sound, got the whole report and a beginning of the cover
pub record IsCoverCutOff (p : Print) (old new : Option (List ℕ)) (failed : Bool) : Type 0 where
  pub covered : p.is_cover ≡ true
  pub sound : failed ≡ false
  pub begun : AppendsInto old new p.report p.behind

-- all was written; or memory ran out; or the sink has failed within it
abbrev pub IsPrinted : Print → (old new : Option (List ℕ)) → Bool → Result (Unit {0}) PrintFault → Type 0
IsPrinted p old new failed (Ok done) = WritesAll old new failed (text_of_print p)
IsPrinted p old new failed (Err ReportCutOff) = IsReportCutOff p old new failed
IsPrinted p old new failed (Err CoverCutOff) = IsCoverCutOff p old new failed
IsPrinted p old new failed (Err Write) = BreaksOff old new failed (text_of_print p)

-- what stops the printing, by what stopped the report or the cover
abbrev pub stop_of_report : ExplainFault → PrintFault
stop_of_report explain.Memory = ReportCutOff
stop_of_report explain.Write = Write

abbrev pub stop_of_cover : WriteCoverFault → PrintFault
stop_of_cover cover.Memory = CoverCutOff
stop_of_cover cover.Write = Write
