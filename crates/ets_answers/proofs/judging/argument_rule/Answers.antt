use Rattle.std.proofs.Common.{◌∙◌}
use Rattle.ets_answers.proofs.Lines.{rule_held}
use Rattle.ets_calls.specs.Calls.{call_in}
use Rattle.ets_answers.proofs.judging.argument_rule.Goals as goal

pub returns : goal.returns
returns c = λ v p ref holds alive. c.rule_of.ensures ∙ rule_held c.args.table.now c.args.living.now v p ref holds alive (call_in c.args.call.now)
