use Rattle.tree_coverage.specs.Findings as coverage
use Rattle.tree_excuses.specs.Excuses.{excuses_in, stands, those_that}
use Rattle.report_text.proofs.Listing.{ListedSoFar}
use Rattle.report_text.specs.Standing.{word_of}
use Rattle.world_model.specs.Asking.{program_of}
use Rattle.report_terms.specs.TermsReport.{lines_from}
use Rattle.report_terms.proofs.report.write_errors.Given as goal

-- the errors that have this standing and come before this one were written
abbrev pub invariant-loop-finding : goal.invariant-loop-finding
invariant-loop-finding g l =
    ListedSoFar (lines_from (program_of l.fn.program) l.kind) (λ (f : coverage.Finding). stands (excuses_in l.fn.excuses) l.fn.standing f.identity) l.finding-items
    (g.W.Sink.contents l.fn.sink) (g.W.Sink.contents l.sink) (g.W.Sink.has_failed l.sink) (lines_from (program_of l.fn.program) (word_of l.fn.standing) 1 (those_that (excuses_in l.fn.excuses) l.fn.standing l.fn.errors)) l.finding-index l.number
