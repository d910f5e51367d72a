use Rattle.std.proofs.Common.{◌≡◌, ◌+◌, false, drop, map}
use Rattle.term_core.specs.inside.Writing.{Owes}
use Rattle.tree_findings.specs.Found.{finding_in}
use Rattle.world_model.specs.Asking.{program_of}
use Rattle.report_terms.specs.TermsReport.{lines_from}
use Rattle.report_terms.proofs.report.write_list.Given as goal

-- the sink is sound, and the findings that are left are still to be written
abbrev pub invariant-loop-place : goal.invariant-loop-place
invariant-loop-place g l =
    (g.W.Sink.has_failed l.sink ≡ false) × Owes (g.W.Sink.contents l.fn.sink) (g.W.Sink.contents l.sink) (lines_from (program_of l.fn.program) l.fn.kind (l.place + 1) (map finding_in (drop l.place l.finding-items))) (lines_from (program_of l.fn.program) l.fn.kind 1 l.fn.findings)
