use Rattle.std.proofs.lemmas.Result.{err_from_is_err_and}
use Rattle.core_tokens.specs.Piece.{pieces}
use Rattle.core_scopes.specs.Drafts.{draft_of}
use Rattle.core_reader.proofs.ReadLaws.{is_spelt, is_lawful, is_only, fails_only, decoding_stands, scopes_stand}
use Rattle.core_reader.proofs.module_tokens.read_tokens.Goals as goal

pub returns-in_err-draft-clause-only : goal.returns-in_err-draft-clause-only
returns-in_err-draft-clause-only c = λ m h lawful.
    let p = err_from_is_err_and c.from_residual.result c.from_residual.ensures.1 in
    rw (p.1, p.2) (fails_only c.args.length (pieces c.args.tokens.now) c.in_err-draft.field-0.0 c.spelt_is_decoded.ensures c.in_err-draft.ensures m h)

pub returns-in_err-draft-clause-fault : goal.returns-in_err-draft-clause-fault
returns-in_err-draft-clause-fault c =
    let p = err_from_is_err_and c.from_residual.result c.from_residual.ensures.1 in
    rw (p.1, p.2) (decoding_stands c.args.length (pieces c.args.tokens.now) c.in_err-draft.field-0.0 c.fault_of_decoding_stands.ensures c.in_err-draft.ensures)

pub returns-clause-spelt : goal.returns-clause-spelt
returns-clause-spelt c =
    let draft = draft_of c.in_ok-draft.draft in
    is_spelt (pieces c.args.tokens.now) draft.0 _ (c.decoded_is_spelt.ensures c.args.length (pieces c.args.tokens.now) draft c.in_ok-draft.ensures) c.closed_module.ensures.lawful

pub returns-clause-lawful : goal.returns-clause-lawful
returns-clause-lawful c = is_lawful (draft_of c.in_ok-draft.draft).0 _ c.closed_module.ensures.lawful

pub returns-clause-only : goal.returns-clause-only
returns-clause-only c =
    is_only c.args.length (pieces c.args.tokens.now) (draft_of c.in_ok-draft.draft) _ c.spelt_is_decoded.ensures c.in_ok-draft.ensures c.closed_module.ensures.lawful c.closed_module.ensures.only

pub returns-clause-fault : goal.returns-clause-fault
returns-clause-fault c =
    scopes_stand c.args.length (pieces c.args.tokens.now) (draft_of c.in_ok-draft.draft) _ c.fault_of_scopes_stands.ensures c.in_ok-draft.ensures c.closed_module.ensures.fault
