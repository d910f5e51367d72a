use Rattle.std.proofs.Common.{sym, ◌∙◌, arith}
use Rattle.ets_answers.proofs.Additions.{refused_by_it, allowed_more}
use Rattle.ets_answers.proofs.counters.sums_rule.Goals as goal

pub returns-then-is_some : goal.returns-then-is_some
returns-then-is_some c =
    refused_by_it c.args.additions.now c.loop-index.index c.args.object.now c.rule_after-rule.result (omega arith) c.loop-index.invariant.1 c.rule_after-rule.ensures (sym c.is_some.ensures ∙ c.if-is_some.true)

pub loop-index-preserved : goal.loop-index-preserved
loop-index-preserved c =
    (omega arith, allowed_more c.args.additions.now c.loop-index.index c.args.object.now c.rule_after-rule.result (omega arith) c.loop-index.invariant.1 c.rule_after-rule.ensures (sym c.is_some.ensures ∙ c.if-is_some.false))
