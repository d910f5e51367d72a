use Rattle.report_reader.proofs.FirstLines.{no_complete, no_nodes, nodes_found}
use Rattle.report_reader.proofs.first_line.nodes_of.Goals as goal

pub returns-in_err-number : goal.returns-in_err-number
returns-in_err-number c = rw c.from_residual.ensures (no_nodes c.args.text.now c.in_err-number.ensures)

pub returns-in_err-digits : goal.returns-in_err-digits
returns-in_err-digits c = rw c.from_residual-in_err-digits.ensures (no_complete c.args.text.now _ c.in_ok-number.ensures c.in_err-digits.ensures)

pub returns : goal.returns
returns c = nodes_found c.args.text.now _ _ c.read_number.result c.in_ok-number.ensures c.in_ok-digits.ensures c.read_number.ensures
