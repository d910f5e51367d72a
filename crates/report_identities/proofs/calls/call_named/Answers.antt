use Rattle.std.proofs.Common.{◌∙◌, ap₂}
use Rattle.core_calls.specs.Calls.{call_with}
use Rattle.report_identities.proofs.CallNames.{call_found, function_utf8, module_utf8}
use Rattle.report_identities.proofs.calls.call_named.Goals as goal

pub returns-in_default : goal.returns-in_default
returns-in_default c = λ kind e f g. c.in_default.ensures.cases.0 (module_utf8 kind _ e)

pub returns-in_default-from_utf8 : goal.returns-in_default-from_utf8
returns-in_default-from_utf8 c = λ kind e f g. c.in_default-from_utf8.ensures.cases.0 (function_utf8 kind _ f)

pub returns : goal.returns
returns c = call_found _ _ _ _ (c.named.ensures ∙ ap₂ (λ m f. call_with m f c.args.arity) c.in-Ok.ensures.cases.0 c.in-Ok-from_utf8.ensures.cases.0)
