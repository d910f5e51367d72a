use Rattle.std.proofs.Common.{◌∙◌, sym}
use Rattle.std.proofs.lemmas.Result.{err_from_is_err_and}
use Rattle.report_identities.proofs.ReasonTexts.{is_reason, no_end, owner_text, rule_word}
use Rattle.report_identities.proofs.reasons.read_reason.Goals as goal

pub returns-in_default : goal.returns-in_default
returns-in_default c = λ rule told is. absurd (no_end _ c.in_default.ensures rule told is)

pub returns-in_default-read_rule : goal.returns-in_default-read_rule
returns-in_default-read_rule c = λ rule told is. absurd (c.in_default-read_rule.ensures rule (c.split_before.ensures.before ∙ rule_word _ _ c.in-Some.ensures rule told is))

pub returns-in_err-owner : goal.returns-in_err-owner
returns-in_err-owner c =
    let p = err_from_is_err_and c.from_residual.result c.from_residual.ensures.1 in
    rw (p.1, p.2) (λ rule told is. c.in_err-owner.ensures told is.0 (c.split_before.ensures.rest ∙ owner_text _ _ c.in-Some.ensures rule told is))

pub returns : goal.returns
returns c = is_reason _ _ _ _ c.in-Some.ensures (sym c.split_before.ensures.before ∙ c.in-Some-read_rule.ensures) (sym c.split_before.ensures.rest ∙ c.in_ok-owner.ensures.1) c.in_ok-owner.ensures.0
