-- Worked rows: lines of sums, and last lines.
use Rattle.std.specs.Prelude.{◌≡◌, codes}
use Rattle.world_model.specs.Names.{Pid}
use Rattle.tree_coverage.specs.Findings.{Findings}
use Rattle.tree_excuses.specs.Excuses.{Excuses}
use Rattle.tree_findings.specs.declared.outcome.Cause.{Cause}
use Rattle.tree_findings.specs.declared.outcome.Outcome.TheVariants.{Complete, Incomplete}
use Rattle.report_text.specs.FirstLines.{twelve}
use Rattle.report_text.specs.LastLines.{nothing_found, runaway_found, uncut}
use Rattle.report_terms.specs.TermsReport.{counts_line, result_line, sample_result_line}

-- ---- sums: a process that runs away is never taken as normal

abbrev pub NothingIsCounted : Type 0
NothingIsCounted = (x : Excuses) → counts_line x nothing_found ≡ codes "{counts,0,0,0}.\n"

abbrev pub RunawayIsCounted : Type 0
RunawayIsCounted = (x : Excuses) (p : Pid) → counts_line x (runaway_found p) ≡ codes "{counts,1,0,0}.\n"

-- ---- the result, of all schedules, and of those up to the depth

abbrev pub CleanOfAll : Type 0
CleanOfAll = (x : Excuses) → result_line 9 x (Complete nothing_found uncut) ≡ codes "{result,clean,all}.\n"

abbrev pub ErrorsOfAll : Type 0
ErrorsOfAll = (x : Excuses) (p : Pid) → result_line 9 x (Complete (runaway_found p) uncut) ≡ codes "{result,errors,all}.\n"

abbrev pub CleanToDepth : Type 0
CleanToDepth = (x : Excuses) → result_line 9 x (Complete nothing_found twelve) ≡ codes "{result,clean,{depth,9}}.\n"

abbrev pub ErrorsToDepth : Type 0
ErrorsToDepth = (x : Excuses) (p : Pid) → result_line 9 x (Complete (runaway_found p) twelve) ≡ codes "{result,errors,{depth,9}}.\n"

abbrev pub StopIsIncomplete : Type 0
StopIsIncomplete = (x : Excuses) (cause : Cause) (findings : Findings) → result_line 9 x (Incomplete cause findings) ≡ codes "{result,incomplete}.\n"

-- ---- of random schedules

abbrev pub NothingIsFound : Type 0
NothingIsFound = (x : Excuses) → sample_result_line x nothing_found ≡ codes "{result,nothing_found}.\n"

abbrev pub ErrorsAreFound : Type 0
ErrorsAreFound = (x : Excuses) (p : Pid) → sample_result_line x (runaway_found p) ≡ codes "{result,errors}.\n"
