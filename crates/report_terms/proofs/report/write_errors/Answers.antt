use Rattle.std.proofs.Common.{◌∙◌, ap, sym}
use Rattle.std.specs.Prelude.{Err}
use Rattle.std.proofs.lemmas.Result.{err_from_is_err_and}
use Rattle.tree_coverage.specs.Findings as coverage
use Rattle.tree_excuses.specs.Excuses.{excuses_in, stands, those_that}
use Rattle.report_text.proofs.Listing.{listing_begins, listing_ends, listing_goes_on, listing_skips, owes_listed}
use Rattle.report_text.specs.Standing.{word_of}
use Rattle.world_model.specs.Asking.{program_of}
use Rattle.report_terms.specs.TermsReport.{lines_from, lines_of_finding}
use Rattle.report_terms.proofs.ReportTexts.{is_listing}
use Rattle.report_explained.proofs.Parts.{part_fails}
use Rattle.report_terms.proofs.report.write_errors.Goals as goal
use Rattle.report_terms.proofs.report.write_errors.Goals.{then-is_of+in_ok-write_finding, else-is_of}

pub loop-finding-init : goal.loop-finding-init
loop-finding-init g c =
    listing_begins (lines_from (program_of c.args.program.now) c.word_of-kind.result.now) (lines_of_finding (program_of c.args.program.now) c.word_of-kind.result.now) (λ (f : coverage.Finding). stands (excuses_in c.args.excuses.now) c.args.standing f.identity)
    c.as_slice-finding-items.result.now (g.W.Sink.contents c.args.sink.now) (g.W.Sink.has_failed c.args.sink.now) c.args.errors.now
    (lines_from (program_of c.args.program.now) (word_of c.args.standing) 1 (those_that (excuses_in c.args.excuses.now) c.args.standing c.args.errors.now))
    c.as_slice-finding-items.ensures.all
    (ap (λ k. lines_from (program_of c.args.program.now) k 1 (those_that (excuses_in c.args.excuses.now) c.args.standing c.args.errors.now)) (sym c.word_of-kind.ensures)) c.requires

pub returns-in_err-write_finding : goal.returns-in_err-write_finding
returns-in_err-write_finding g c =
    let p = err_from_is_err_and c.from_residual.result c.from_residual.ensures.1 in
    part_fails _ _ _ _ _ _ _ _ _ (p.1 ∙ ap Err p.2)
    (owes_listed (lines_from (program_of c.args.program.now) c.word_of-kind.result.now) (lines_of_finding (program_of c.args.program.now) c.word_of-kind.result.now) (λ (f : coverage.Finding). stands (excuses_in c.args.excuses.now) c.args.standing f.identity)
    c.as_slice-finding-items.result.now (is_listing (program_of c.args.program.now) c.word_of-kind.result.now) (g.W.Sink.contents c.args.sink.now) (g.W.Sink.contents c.loop-finding.sink) (g.W.Sink.has_failed c.loop-finding.sink)
    (lines_from (program_of c.args.program.now) (word_of c.args.standing) 1 (those_that (excuses_in c.args.excuses.now) c.args.standing c.args.errors.now))
    c.loop-finding.finding-index c.loop-finding.number c.finding-item.result c.finding-item.result c.loop-finding.invariant c.loop-finding-test.true c.finding-item.is (sym c.is_of.ensures ∙ c.if-is_of.true))
    c.in_err-write_finding.ensures

pub loop-finding-preserved : goal.loop-finding-preserved
loop-finding-preserved g c =
    elim c.if-is_of.branch [
      | then-is_of+in_ok-write_finding w ↦
          listing_goes_on (lines_from (program_of c.args.program.now) c.word_of-kind.result.now) (lines_of_finding (program_of c.args.program.now) c.word_of-kind.result.now) (λ (f : coverage.Finding). stands (excuses_in c.args.excuses.now) c.args.standing f.identity)
          c.as_slice-finding-items.result.now (is_listing (program_of c.args.program.now) c.word_of-kind.result.now)
          (g.W.Sink.contents c.args.sink.now) (g.W.Sink.contents c.loop-finding.sink) (g.W.Sink.contents w.write_finding.new.sink) (g.W.Sink.contents c.if-is_of.sink)
          (g.W.Sink.has_failed c.loop-finding.sink) (g.W.Sink.has_failed w.write_finding.new.sink) (g.W.Sink.has_failed c.if-is_of.sink)
          (lines_from (program_of c.args.program.now) (word_of c.args.standing) 1 (those_that (excuses_in c.args.excuses.now) c.args.standing c.args.errors.now))
          c.loop-finding.finding-index c.loop-finding.number c.if-is_of.number c.finding-item.result c.finding-item.result c.loop-finding.invariant c.loop-finding-test.true c.finding-item.is (sym c.is_of.ensures ∙ w.if-is_of.true)
          w.number-is w.in_ok-write_finding.ensures (ap g.W.Sink.contents w.sink-is) (ap g.W.Sink.has_failed w.sink-is)
      | else-is_of w ↦
          listing_skips (lines_from (program_of c.args.program.now) c.word_of-kind.result.now) (lines_of_finding (program_of c.args.program.now) c.word_of-kind.result.now) (λ (f : coverage.Finding). stands (excuses_in c.args.excuses.now) c.args.standing f.identity)
          c.as_slice-finding-items.result.now
          (g.W.Sink.contents c.args.sink.now) (g.W.Sink.contents c.loop-finding.sink) (g.W.Sink.contents c.if-is_of.sink)
          (g.W.Sink.has_failed c.loop-finding.sink) (g.W.Sink.has_failed c.if-is_of.sink)
          (lines_from (program_of c.args.program.now) (word_of c.args.standing) 1 (those_that (excuses_in c.args.excuses.now) c.args.standing c.args.errors.now))
          c.loop-finding.finding-index c.loop-finding.number c.if-is_of.number c.finding-item.result c.finding-item.result c.loop-finding.invariant c.loop-finding-test.true c.finding-item.is (sym c.is_of.ensures ∙ w.if-is_of.false)
          w.number-is (ap g.W.Sink.contents w.sink-is) (ap g.W.Sink.has_failed w.sink-is)
    ]

pub returns : goal.returns
returns g c =
    listing_ends (lines_from (program_of c.args.program.now) c.word_of-kind.result.now) (lines_of_finding (program_of c.args.program.now) c.word_of-kind.result.now) (λ (f : coverage.Finding). stands (excuses_in c.args.excuses.now) c.args.standing f.identity)
    c.as_slice-finding-items.result.now (is_listing (program_of c.args.program.now) c.word_of-kind.result.now) (g.W.Sink.contents c.args.sink.now) (g.W.Sink.contents c.loop-finding.sink) (g.W.Sink.has_failed c.loop-finding.sink)
    (lines_from (program_of c.args.program.now) (word_of c.args.standing) 1 (those_that (excuses_in c.args.excuses.now) c.args.standing c.args.errors.now))
    c.loop-finding.finding-index c.loop-finding.number c.loop-finding.invariant c.loop-finding-test.false
