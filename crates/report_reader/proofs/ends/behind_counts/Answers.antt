use Rattle.std.proofs.Common.{◌++◌, codes}
use Rattle.std.specs.Fmt.{decimal}
use Rattle.tree_excuses.specs.Excuses.{excuses_in}
use Rattle.report_reader.specs.inside.Reading.{normal_told}
use Rattle.report_reader.proofs.Cuts.{no_first, no_second}
use Rattle.report_reader.proofs.Fronts.{two_fronts}
use Rattle.report_reader.proofs.ends.behind_counts.Goals as goal

pub returns-in_err-text : goal.returns-in_err-text
returns-in_err-text c =
    let normal = normal_told (excuses_in c.args.excuses.now) c.args.normal ++ codes "\n" in
    rw c.from_residual.ensures (no_first (codes "errors " ++ decimal c.args.errors) ((codes ", refusals " ++ decimal c.args.refusals) ++ normal) c.args.text.now c.in_err-text.ensures)

pub returns-in_err-text-2 : goal.returns-in_err-text-2
returns-in_err-text-2 c =
    let normal = normal_told (excuses_in c.args.excuses.now) c.args.normal ++ codes "\n" in
    rw c.from_residual-in_err-text-2.ensures (
    no_second (codes "errors " ++ decimal c.args.errors) ((codes ", refusals " ++ decimal c.args.refusals) ++ normal) c.args.text.now _ c.in_ok-text.ensures
    (no_first (codes ", refusals " ++ decimal c.args.refusals) normal _ c.in_err-text-2.ensures))

pub returns-in_err-text-3 : goal.returns-in_err-text-3
returns-in_err-text-3 c =
    let normal = normal_told (excuses_in c.args.excuses.now) c.args.normal in
    rw c.from_residual-in_err-text-3.ensures (
    no_second (codes "errors " ++ decimal c.args.errors) ((codes ", refusals " ++ decimal c.args.refusals) ++ (normal ++ codes "\n")) c.args.text.now _ c.in_ok-text.ensures
    (no_second (codes ", refusals " ++ decimal c.args.refusals) (normal ++ codes "\n") _ _ c.in_ok-text-2.ensures
    (no_first normal (codes "\n") _ c.in_err-text-3.ensures)))

pub returns : goal.returns
returns c =
    let normal = normal_told (excuses_in c.args.excuses.now) c.args.normal in
    two_fronts (λ r. r.now) (codes "errors " ++ decimal c.args.errors) ((codes ", refusals " ++ decimal c.args.refusals) ++ (normal ++ codes "\n")) c.args.text.now _ c.behind.result c.in_ok-text.ensures
    (two_fronts (λ r. r.now) (codes ", refusals " ++ decimal c.args.refusals) (normal ++ codes "\n") _ _ c.behind.result c.in_ok-text-2.ensures
    (two_fronts (λ r. r.now) normal (codes "\n") _ _ c.behind.result c.in_ok-text-3.ensures c.behind.ensures))
