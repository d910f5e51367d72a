use Rattle.std.proofs.Common.{rules, ◌≡◌, true, false, sym, ◌∙◌}
use Rattle.tree_covers.proofs.JudgeLaws.{in_first, in_second}
use Rattle.tree_covers.proofs.judging.is_in_either.Goals as goal

pub returns-then-is_one_of : goal.returns-then-is_one_of
returns-then-is_one_of c =
    let there : c.is_one_of.result ≡ true = search rules in
    in_first c.args.slept.now c.args.line.now c.args.step.now (sym c.is_one_of.ensures ∙ there)

pub returns : goal.returns
returns c =
    let nowhere : c.is_one_of.result ≡ false = search rules in
    c.is_one_of-2.ensures ∙ in_second c.args.slept.now c.args.line.now c.args.step.now (sym c.is_one_of.ensures ∙ nowhere)
