-- What a flush at the end makes of what was written, and what stops a report and the cover after it.
use Rattle.std.proofs.Common.{◌≡◌, ℕ, Bool, true, List, [], ◌++◌, Option, sym, subst, append-nil}
use Rattle.std.specs.Prelude.{Result, Ok, Err}
use Rattle.std.specs.Io.KnownBytes.{Keeps}
use Rattle.std.proofs.KnownBytes.{Appends-kept}
use Rattle.tree_covers.specs.Writing.{IsWritten}
use Rattle.tree_covers.specs.declared.fault.WriteCoverFault.{WriteCoverFault}
use Rattle.tree_covers.specs.declared.fault.WriteCoverFault.TheVariants as cover
use Rattle.program_runs.specs.Printing.{IsPrinted, Print, stop_of_cover, text_of_print}
use Rattle.program_runs.specs.inside.Forms.{IsReportWritten}
use Rattle.program_runs.specs.declared.print_fault.PrintFault.{PrintFault}
use Rattle.program_runs.specs.declared.print_fault.PrintFault.TheVariants.{ReportCutOff, CoverCutOff, Write}
use Rattle.term_core.specs.Stream.{WritesAll, BreaksOff}
use Rattle.term_core.specs.inside.Writing.{appends_then, begins_first, begins_then}

-- where the flush failed, what was written before it is a beginning
pub none_flushed : (old mid new : Option (List ℕ)) (failed after : Bool) (text : List ℕ) → WritesAll old mid failed text → Keeps mid new → after ≡ true → BreaksOff old new after text
none_flushed old mid new failed after text w k fault = record {
  beginning = record { written = text; unwritten = []; parts = sym (append-nil text); appends = Appends-kept old mid new text w.appends k };
  fault = fault;
}

-- ---- the report, and what follows it

-- what stopped the report stops the printing
pub form_stops : (p : Print) (old new : Option (List ℕ)) (failed : Bool) (fault : PrintFault) → IsReportWritten p.is_explained p.report old new failed (Err fault) → IsPrinted p old new failed (Err fault)
form_stops p old new failed ReportCutOff w = record { explained = w.0; sound = w.1; begun = w.2 }
form_stops p old new failed CoverCutOff w = absurd w
form_stops p old new failed Write w = record { beginning = begins_first old new p.report p.behind w.beginning; fault = w.fault }

-- what stopped the cover does, too
pub cover_stops : (p : Print) (old mid new : Option (List ℕ)) (failed after : Bool) (fault : WriteCoverFault) → WritesAll old mid failed p.report → p.is_cover ≡ true → IsWritten p.behind mid new after (Err fault) → IsPrinted p old new after (Err (stop_of_cover fault))
cover_stops p old mid new failed after cover.Memory f is w = record {
  covered = is;
  sound = w.0;
  begun = record { written = w.1.written; unwritten = w.1.unwritten; parts = w.1.parts; appends = appends_then old mid new p.report w.1.written f.appends w.1.appends };
}
cover_stops p old mid new failed after cover.Write f is w = record { beginning = begins_then old mid new p.report p.behind f.appends w.beginning; fault = w.fault }

pub both_written : (p : Print) (old mid new : Option (List ℕ)) (failed after : Bool) → WritesAll old mid failed p.report → WritesAll mid new after p.behind → WritesAll old new after (text_of_print p)
both_written p old mid new failed after f b = record { appends = appends_then old mid new p.report p.behind f.appends b.appends; sound = b.sound }

pub nothing_behind : (front : List ℕ) (old new : Option (List ℕ)) (failed : Bool) → WritesAll old new failed front → WritesAll old new failed (front ++ [])
nothing_behind front old new failed w = subst (λ (t : List ℕ). WritesAll old new failed t) (sym (append-nil front)) w

-- where nothing follows the report, all is printed where it is written
pub report_alone : (p : Print) (old new : Option (List ℕ)) (failed : Bool) (r : Result (Unit {0}) PrintFault) → p.behind ≡ [] → IsReportWritten p.is_explained p.report old new failed r → IsPrinted p old new failed r
report_alone p old new failed (Ok done) none w = subst (λ (t : List ℕ). WritesAll old new failed (p.report ++ t)) (sym none) (nothing_behind p.report old new failed w)
report_alone p old new failed (Err fault) none w = form_stops p old new failed fault w
