use Rattle.report_identities.proofs.RuleTexts.{rule_read, rule_utf8}
use Rattle.report_identities.proofs.reasons.read_rule.Goals as goal

pub returns-in_default : goal.returns-in_default
returns-in_default c = λ rule e. c.in_default.ensures.cases.0 (rule_utf8 rule _ e)

pub returns : goal.returns
returns c = rule_read c.args.text.now c.rule_of.result (rw c.in-Ok.ensures.cases.0 at c.rule_of.ensures)
