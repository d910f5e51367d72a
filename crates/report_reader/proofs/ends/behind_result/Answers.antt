use Rattle.std.proofs.Common.{◌++◌, codes}
use Rattle.report_reader.specs.inside.Reading.{result_told}
use Rattle.report_reader.proofs.Cuts.{no_first, no_second}
use Rattle.report_reader.proofs.Fronts.{two_fronts}
use Rattle.report_reader.proofs.ends.behind_result.Goals as goal

pub returns-in_err-word : goal.returns-in_err-word
returns-in_err-word c = rw c.from_residual.ensures (no_first (codes "result: ") (result_told c.args.reach c.args.errors ++ codes "\n") c.args.text.now c.in_err-word.ensures)

pub returns-in_err-rest : goal.returns-in_err-rest
returns-in_err-rest c =
    let told = result_told c.args.reach c.args.errors in
    rw c.from_residual-in_err-rest.ensures (
    no_second (codes "result: ") (told ++ codes "\n") c.args.text.now _ c.in_ok-word.ensures
    (no_first told (codes "\n") _ (rw c.result_told.ensures at c.in_err-rest.ensures)))

pub returns : goal.returns
returns c =
    let told = result_told c.args.reach c.args.errors in
    two_fronts (λ r. r.now) (codes "result: ") (told ++ codes "\n") c.args.text.now _ c.behind-3.result c.in_ok-word.ensures
    (two_fronts (λ r. r.now) told (codes "\n") _ _ c.behind-3.result (rw c.result_told.ensures at c.in_ok-rest.ensures) c.behind-3.ensures)
