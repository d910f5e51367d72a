use Rattle.std.proofs.Common.{rules, ◌≡◌}
use Rattle.tree_covers.specs.CoverText.{mark}
use Rattle.tree_covers.proofs.MarkLaws.{cut_goes_on, cut_here}
use Rattle.tree_covers.proofs.mark.split_at_mark.Goals as goal

pub returns-then-eq : goal.returns-then-eq
returns-then-eq c =
    let is : c.in-Some.line.now ≡ mark = search rules in
    let cut = cut_here c.args.text.now c.loop-line.rest.now c.in-Some.line.now c.in-Some.behind.now c.loop-line.invariant c.in-Some.ensures.none c.in-Some.ensures.line is in
    search (rules, cut)

pub loop-line-preserved : goal.loop-line-preserved
loop-line-preserved c =
    let other : c.in-Some.line.now ≡ mark → ⊥ = search rules in
    cut_goes_on c.args.text.now c.loop-line.rest.now c.in-Some.line.now c.in-Some.behind.now c.loop-line.invariant c.in-Some.ensures.none c.in-Some.ensures.line c.in-Some.ensures.lines other
