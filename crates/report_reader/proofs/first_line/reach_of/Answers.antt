use Rattle.std.proofs.Common.{rules}
use Rattle.report_reader.proofs.FirstLines.{no_reach_text}
use Rattle.report_reader.proofs.first_line.reach_of.Goals as goal

pub returns-in_err-nodes_of : goal.returns-in_err-nodes_of
returns-in_err-nodes_of c = rw c.from_residual.ensures (no_reach_text c.args.text.now (search rules) (search rules) c.in_err-nodes_of.ensures)
