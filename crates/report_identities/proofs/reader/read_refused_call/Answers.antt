use Rattle.std.proofs.Common.{◌∙◌, ap, length, sym}
use Rattle.std.proofs.lemmas.Result.{err_from_is_err_and}
use Rattle.report_identities.specs.declared.fault.IdentityFault.TheVariants.{BadIdentity}
use Rattle.report_identities.proofs.IdentityTexts.{call_is, no_arguments, no_kind, no_pieces, no_reason, no_request, refused_call}
use Rattle.report_identities.proofs.reader.read_refused_call.Goals as goal

pub returns-in_default : goal.returns-in_default
returns-in_default c = refused_call c.args.pid c.args.text.now BadIdentity c.requires (no_pieces _ c.in_default.ensures)

pub returns-in_default-read_number : goal.returns-in_default-read_number
returns-in_default-read_number c = refused_call c.args.pid c.args.text.now BadIdentity c.requires (no_request _ _ _ _ _ c.in-Some.ensures c.in_default-read_number.ensures)

pub returns-in_err-arguments : goal.returns-in_err-arguments
returns-in_err-arguments c =
    let p = err_from_is_err_and c.from_residual.result c.from_residual.ensures.1 in
    rw (p.1, p.2) (refused_call c.args.pid c.args.text.now _ c.requires (no_arguments _ _ _ _ _ _ c.in-Some.ensures c.in_err-arguments.ensures))

pub returns-in_default-read_kind : goal.returns-in_default-read_kind
returns-in_default-read_kind c =
    refused_call c.args.pid c.args.text.now BadIdentity c.requires (no_kind _ _ _ _ _ _ _ c.in-Some.ensures c.in_ok-arguments.ensures.0 c.in_ok-arguments.ensures.1 (c.len.ensures ∙ ap length c.deref.ensures) c.in_default-read_kind.ensures)

pub returns-in_err-rule : goal.returns-in_err-rule
returns-in_err-rule c =
    let p = err_from_is_err_and c.from_residual-in_err-rule.result c.from_residual-in_err-rule.ensures.1 in
    rw (p.1, p.2) (refused_call c.args.pid c.args.text.now _ c.requires (no_reason _ _ _ _ _ _ c.in-Some.ensures c.in_err-rule.ensures))

pub returns : goal.returns
returns c = (
  record {
    process = c.requires;
    number = c.in-Some-read_number.ensures.0;
    arity = sym (c.len.ensures ∙ ap length c.deref.ensures) ∙ c.in-Some-read_kind.ensures.1;
    terms = c.in_ok-arguments.ensures.0;
    owner = c.in_ok-rule.ensures.0;
  },
  call_is _ _ _ _ _ _ _ _ _ _ _ c.in-Some.ensures c.in-Some-read_number.ensures.1 c.in-Some-read_kind.ensures.0 c.in_ok-arguments.ensures.1 c.in_ok-rule.ensures.1,
)
