use Rattle.std.proofs.Common.{◌≡◌, ◌+◌, false, drop, map}
use Rattle.term_core.specs.inside.Writing.{Owes}
use Rattle.tree_findings.specs.Found.{finding_in}
use Rattle.report_text.specs.ReportText.{findings_from, text_of_findings}
use Rattle.report_text.proofs.report.write_findings.Given as goal

-- the sink is sound, and the findings that are left are still to be written
abbrev pub invariant-loop-place : goal.invariant-loop-place
invariant-loop-place g l =
    (g.W.Sink.has_failed l.sink ≡ false) × Owes (g.W.Sink.contents l.fn.sink) (g.W.Sink.contents l.sink) (findings_from l.fn.kind (l.place + 1) (map finding_in (drop l.place l.finding-items))) (text_of_findings l.fn.kind l.fn.findings)
