use Rattle.tree_coverage.specs.Findings as coverage
use Rattle.tree_excuses.specs.Excuses.{excuses_in, stands, those_that}
use Rattle.report_text.specs.ReportText.{findings_from, text_of_findings}
use Rattle.report_text.specs.Standing.{word_of}
use Rattle.report_text.proofs.Listing.{ListedSoFar}
use Rattle.report_text.proofs.report.write_errors.Given as goal

-- the errors that have this standing and come before this one were written
abbrev pub invariant-loop-finding : goal.invariant-loop-finding
invariant-loop-finding g l =
    ListedSoFar (findings_from l.kind) (λ (f : coverage.Finding). stands (excuses_in l.fn.excuses) l.fn.standing f.identity) l.finding-items
    (g.W.Sink.contents l.fn.sink) (g.W.Sink.contents l.sink) (g.W.Sink.has_failed l.sink) (text_of_findings (word_of l.fn.standing) (those_that (excuses_in l.fn.excuses) l.fn.standing l.fn.errors)) l.finding-index l.number
