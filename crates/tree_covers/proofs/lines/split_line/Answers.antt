use Rattle.std.proofs.Common.{rules, ◌≡◌, []}
use Rattle.tree_covers.proofs.LineLaws.{first_ended, lines_ended, first_alone, lines_first_alone}
use Rattle.tree_covers.proofs.lines.split_line.Goals as goal

pub returns-in_default-clause-line : goal.returns-in_default-clause-line
returns-in_default-clause-line c = first_alone c.args.text.now c.split_at_end.result.0.now c.split_at_end.result.1.now c.split_at_end.ensures.line c.split_at_end.ensures.rest (search rules)

pub returns-in_default-clause-lines : goal.returns-in_default-clause-lines
returns-in_default-clause-lines c =
    let some : c.args.text.now ≡ [] → ⊥ = search rules in
    lines_first_alone c.args.text.now c.split_at_end.result.0.now c.split_at_end.result.1.now some c.split_at_end.ensures.line c.split_at_end.ensures.rest (search rules)

pub returns-clause-line : goal.returns-clause-line
returns-clause-line c = first_ended c.args.text.now c.split_at_end.result.0.now c.split_at_end.result.1.now c.in-Some.behind.now c.in-Some._end.now c.split_at_end.ensures.line c.split_at_end.ensures.rest c.in-Some.ensures.cases.0

pub returns-clause-lines : goal.returns-clause-lines
returns-clause-lines c = lines_ended c.args.text.now c.split_at_end.result.0.now c.split_at_end.result.1.now c.in-Some.behind.now c.in-Some._end.now c.split_at_end.ensures.line c.split_at_end.ensures.rest c.in-Some.ensures.cases.0
