use Rattle.std.specs.Fmt.{decimal}
use Rattle.report_reader.proofs.Cuts.{no_first}
use Rattle.report_reader.proofs.Fronts.{two_fronts}
use Rattle.report_reader.proofs.ends.behind_count.Goals as goal

pub returns-in_err-number : goal.returns-in_err-number
returns-in_err-number c = rw c.from_residual.ensures (no_first c.args.label.now (decimal c.args.count) c.args.text.now c.in_err-number.ensures)

pub returns : goal.returns
returns c = two_fronts (λ r. r.now) c.args.label.now (decimal c.args.count) c.args.text.now _ c.behind_number.result c.in_ok-number.ensures c.behind_number.ensures
