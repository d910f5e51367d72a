use Rattle.std.proofs.Common.{◌++◌, codes}
use Rattle.std.specs.Fmt.{decimal}
use Rattle.report_reader.proofs.Cuts.{no_first, no_second}
use Rattle.report_reader.proofs.Fronts.{two_fronts}
use Rattle.report_reader.proofs.first_line.behind_depth.Goals as goal

pub returns-in_err-number : goal.returns-in_err-number
returns-in_err-number c = rw c.from_residual.ensures (no_first (codes "depth ") (decimal c.args.depth ++ codes ", ") c.args.text.now c.in_err-number.ensures)

pub returns-in_err-rest : goal.returns-in_err-rest
returns-in_err-rest c =
    rw c.from_residual-in_err-rest.ensures (
    no_second (codes "depth ") (decimal c.args.depth ++ codes ", ") c.args.text.now _ c.in_ok-number.ensures
    (no_first (decimal c.args.depth) (codes ", ") _ c.in_err-rest.ensures))

pub returns : goal.returns
returns c =
    two_fronts (λ r. r.now) (codes "depth ") (decimal c.args.depth ++ codes ", ") c.args.text.now _ c.behind-2.result c.in_ok-number.ensures
    (two_fronts (λ r. r.now) (decimal c.args.depth) (codes ", ") _ _ c.behind-2.result c.in_ok-rest.ensures c.behind-2.ensures)
