-- The signatures of the code, as contracts see them.
use Rattle.core_calls.specs.Calls.{Signature}
use Rattle.core_calls.specs.declared.signature.Signature.{Signature as Written}

abbrev pub signature_of : Written → Signature
signature_of s = record { module_name = s.module_name.now; function_name = s.function_name.now; arity = s.arity }
