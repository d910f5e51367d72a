use Rattle.std.proofs.Common.{rules, ◌≡◌, true}
use Rattle.tree_excuses.specs.Excuses.{excuses_in}
use Rattle.report_text.specs.ReportText.{text_of_report}
use Rattle.program_runs.proofs.ReportLaws.{none_flushed}
use Rattle.program_runs.proofs.printing.write_and_flush.Goals as goal

pub returns-then-is_err-clause-written : goal.returns-then-is_err-clause-written
returns-then-is_err-clause-written g c =
    let fault : g.W.Sink.has_failed c.flush.new.self ≡ true = search rules in
    none_flushed (g.W.Sink.contents c.args.sink.now) (g.W.Sink.contents c.write_report.new.sink) (g.W.Sink.contents c.flush.new.self) (g.W.Sink.has_failed c.write_report.new.sink) (g.W.Sink.has_failed c.flush.new.self)
    (text_of_report c.args.depth (excuses_in c.args.excuses.now) c.args.outcome.now) c.in_ok-write_report.ensures c.flush.ensures.bytes fault
