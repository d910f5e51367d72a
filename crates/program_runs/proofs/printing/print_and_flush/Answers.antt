use Rattle.tree_excuses.specs.Excuses.{excuses_in}
use Rattle.program_runs.specs.Explored.{print_found}
use Rattle.program_runs.proofs.printing.print_and_flush.Goals as goal

pub returns-clause-written : goal.returns-clause-written
returns-clause-written g c =
    c.flush_printed.ensures.written (print_found c.args.printed c.args.program.now c.args.depth (excuses_in c.args.excuses.now) c.args.found.now) (g.W.Sink.contents c.args.sink.now) c.print-printing.ensures
