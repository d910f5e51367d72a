use Rattle.std.proofs.Common.{ap, ◌++◌, codes}
use Rattle.std.specs.Fmt.{decimal}
use Rattle.tree_excuses.specs.Excuses.{excuses_in}
use Rattle.report_reader.specs.inside.Reading.{normal_told}
use Rattle.report_reader.proofs.Fronts.{same_front, told_none, told_some}
use Rattle.report_reader.proofs.ends.behind_normal.Goals as goal

pub returns-then-are_any : goal.returns-then-are_any
returns-then-are_any c =
    same_front (λ r. r.now) (codes ", taken as normal " ++ decimal c.args.count) (normal_told (excuses_in c.args.excuses.now) c.args.count) c.args.text.now c.behind_count.result
    (told_some (excuses_in c.args.excuses.now) c.args.count c.are_any.result c.are_any.ensures c.if-are_any.true) c.behind_count.ensures

pub returns-else-are_any : goal.returns-else-are_any
returns-else-are_any c = ap (λ w. w ++ c.args.text.now) (told_none (excuses_in c.args.excuses.now) c.args.count c.are_any.result c.are_any.ensures c.if-are_any.false)
