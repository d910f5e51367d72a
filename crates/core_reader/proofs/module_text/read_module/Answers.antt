use Rattle.std.proofs.Common.{List, length, ap, sym, subst, ◌∙◌}
use Rattle.std.proofs.lemmas.Result.{err_from_is_err_and}
use Rattle.core_tokens.specs.Piece.{pieces}
use Rattle.core_tokens.specs.Tokens.{AreTokens}
use Rattle.core_tokens.specs.declared.token.Token.{Token}
use Rattle.core_reader.proofs.WithinText.{says, said, tokens_within, faults_within}
use Rattle.core_reader.proofs.Refusals.{tokens_refuse, reading_refuses}
use Rattle.core_reader.proofs.module_text.read_module.Goals as goal

pub returns-in_err-check_text-clause-place : goal.returns-in_err-check_text-clause-place
returns-in_err-check_text-clause-place c =
    let p = err_from_is_err_and c.from_residual.result c.from_residual.ensures.1 in
    rw (p.1, p.2) c.in_err-check_text.ensures.place

pub returns-in_err-tokens-clause-only : goal.returns-in_err-tokens-clause-only
returns-in_err-tokens-clause-only c = λ m s.
    let p = err_from_is_err_and c.from_residual-in_err-tokens.result c.from_residual-in_err-tokens.ensures.1 in
    rw (p.1, p.2) (c.in_err-tokens.ensures.complete s.pieces s.tokens)

pub returns-clause-spelt : goal.returns-clause-spelt
returns-clause-spelt c =
    let fits = c.in_ok-check_text.ensures.fits in
    let found = subst (λ (ts : List Token). AreTokens c.args.text.now (pieces ts)) (sym c.deref.ensures.value) c.in_ok-tokens.ensures.sound in
    says c.args.text.now (pieces c.deref.result.now) c.read_tokens.result fits.0 fits.1 found c.read_tokens.ensures.spelt c.read_tokens.ensures.lawful

pub returns-clause-only : goal.returns-clause-only
returns-clause-only c =
    said c.args.text.now (pieces c.deref.result.now) c.read_tokens.result (λ qs t. ap pieces c.deref.ensures.value ∙ c.in_ok-tokens.ensures.complete qs t) c.read_tokens.ensures.only

pub returns-clause-place : goal.returns-clause-place
returns-clause-place c =
    let found = subst (λ (ts : List Token). AreTokens c.args.text.now (pieces ts)) (sym c.deref.ensures.value) c.in_ok-tokens.ensures.sound in
    faults_within (length c.args.text.now) (pieces c.deref.result.now) c.read_tokens.result (tokens_within found.1) c.read_tokens.ensures.fault

pub returns-in_err-tokens-clause-refusal : goal.returns-in_err-tokens-clause-refusal
returns-in_err-tokens-clause-refusal c =
    let p = err_from_is_err_and c.from_residual-in_err-tokens.result c.from_residual-in_err-tokens.ensures.1 in
    rw (p.1, p.2) (tokens_refuse c.args.text.now c.in_err-tokens.field-0.0 c.in_ok-check_text.ensures.fits c.in_err-tokens.ensures.fault c.in_err-tokens.ensures.complete)

pub returns-clause-refusal : goal.returns-clause-refusal
returns-clause-refusal c =
    let found = subst (λ (ts : List Token). AreTokens c.args.text.now (pieces ts)) (sym c.deref.ensures.value) c.in_ok-tokens.ensures.sound in
    let only = said c.args.text.now (pieces c.deref.result.now) c.read_tokens.result (λ qs t. ap pieces c.deref.ensures.value ∙ c.in_ok-tokens.ensures.complete qs t) c.read_tokens.ensures.only in
    reading_refuses c.args.text.now (pieces c.deref.result.now) c.read_tokens.result c.in_ok-check_text.ensures.fits found c.read_tokens.ensures.fault only
