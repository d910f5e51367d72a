use Rattle.report_identities.proofs.RuleTexts.{no_rule}
use Rattle.report_identities.proofs.reasons.rule_of.Goals as goal

pub returns-in_default : goal.returns-in_default
returns-in_default c =
    let not = c.in_default in
    no_rule c.args.words.now (not.not-text, (not.not-text-2, (not.not-text-3, (not.not-text-4, (not.not-text-5, (not.not-text-6, (not.not-text-7, (not.not-text-8, (not.not-text-9, (not.not-text-10, (not.not-text-11, (not.not-text-12, (not.not-text-13, (not.not-text-14, (not.not-text-15, (not.not-text-16, (not.not-text-17, (not.not-text-18, (not.not-text-19, tt)))))))))))))))))))
