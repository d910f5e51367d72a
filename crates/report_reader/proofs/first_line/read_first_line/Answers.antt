use Rattle.std.proofs.Common.{arith}
use Rattle.report_reader.proofs.FirstLines.{no_depth, no_line, no_reach, reach_read}
use Rattle.report_reader.proofs.first_line.read_first_line.Goals as goal

pub returns-in_err-line : goal.returns-in_err-line
returns-in_err-line c = rw c.from_residual.ensures (no_line c.args.depth (omega arith) c.args.text.now c.in_err-line.ensures)

pub returns-in_err-behind_depth : goal.returns-in_err-behind_depth
returns-in_err-behind_depth c = rw c.from_residual-in_err-behind_depth.ensures (no_depth c.args.depth (omega arith) c.args.text.now _ _ c.in_ok-line.ensures c.in_err-behind_depth.ensures)

pub returns-in_err-reach : goal.returns-in_err-reach
returns-in_err-reach c = rw c.from_residual-in_err-reach.ensures (no_reach c.args.depth (omega arith) c.args.text.now _ _ _ c.in_ok-line.ensures c.in_ok-behind_depth.ensures c.in_err-reach.ensures)

pub returns : goal.returns
returns c = reach_read c.args.depth (omega arith) c.args.text.now _ _ _ _ c.in_ok-line.ensures c.in_ok-behind_depth.ensures c.in_ok-reach.ensures.0 c.in_ok-reach.ensures.1
