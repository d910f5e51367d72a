use Rattle.std.proofs.Common.{◌∙◌, ◌++◌, ap, codes}
use Rattle.std.proofs.lemmas.Result.{err_from_is_err_and}
use Rattle.report_identities.proofs.ReasonTexts.{no_owner, owner_word, some_bytes}
use Rattle.report_identities.proofs.reasons.read_owner.Goals as goal

pub returns-in_default : goal.returns-in_default
returns-in_default c = λ told h e. absurd (no_owner _ (some_bytes _ c.if-is_empty.ensures) c.in_default.ensures told e)

pub returns-in_err-owner : goal.returns-in_err-owner
returns-in_err-owner c =
    let p = err_from_is_err_and c.from_residual.result c.from_residual.ensures.1 in
    rw (p.1, p.2) (λ told h e. owner_word _ _ _ (some_bytes _ c.if-is_empty.ensures) c.in-Some.ensures c.in_err-owner.ensures told h e)

pub returns : goal.returns
returns c = (c.in_ok-owner.ensures.0, c.in-Some.ensures ∙ ap (λ w. codes ", owner " ++ w) c.in_ok-owner.ensures.1)
