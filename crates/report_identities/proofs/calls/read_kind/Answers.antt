use Rattle.report_identities.proofs.CallNames.{has_colon, kind_read}
use Rattle.report_identities.proofs.calls.read_kind.Goals as goal

pub returns-in_err-module_bytes : goal.returns-in_err-module_bytes
returns-in_err-module_bytes c = rw c.from_residual.ensures (λ kind e g. has_colon kind _ c.in_err-module_bytes.ensures e)

pub returns : goal.returns
returns c = kind_read _ _ _ c.args.arity c.call_named.result c.in_ok-module_bytes.ensures c.call_named.ensures
