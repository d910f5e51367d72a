use Rattle.std.proofs.Common.{codes}
use Rattle.std.specs.Fmt.{decimal}
use Rattle.report_reader.proofs.Cuts.{no_first}
use Rattle.report_reader.proofs.Fronts.{two_fronts}
use Rattle.report_reader.proofs.finding_lines.behind_label.Goals as goal

pub returns-in_err-rest : goal.returns-in_err-rest
returns-in_err-rest c = rw c.from_residual.ensures (no_first (decimal c.args.number) (codes ": ") c.args.text.now c.in_err-rest.ensures)

pub returns : goal.returns
returns c = two_fronts (λ r. r.now) (decimal c.args.number) (codes ": ") c.args.text.now _ c.behind.result c.in_ok-rest.ensures c.behind.ensures
