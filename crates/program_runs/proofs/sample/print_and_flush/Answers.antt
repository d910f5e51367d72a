use Rattle.std.proofs.Common.{refl}
use Rattle.tree_excuses.specs.Excuses.{excuses_in}
use Rattle.world_model.specs.Asking.{program_of}
use Rattle.program_runs.specs.Sampled.{print_of_samples}
use Rattle.program_runs.proofs.ReportLaws.{report_alone}
use Rattle.program_runs.proofs.sample.print_and_flush.Goals as goal

pub returns-clause-written : goal.returns-clause-written
returns-clause-written g c =
    let print = print_of_samples c.args.printed c.args.samples.now (program_of c.args.program.now) (excuses_in c.args.excuses.now) c.args.found.now in
    let old = g.W.Sink.contents c.args.sink.now in
    c.flush_printed.ensures.written print old
    (report_alone print old (g.W.Sink.contents c.write_form-printing.new.sink) (g.W.Sink.has_failed c.write_form-printing.new.sink) c.write_form-printing.result refl c.write_form-printing.ensures)
