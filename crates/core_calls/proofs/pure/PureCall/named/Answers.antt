use Rattle.std.proofs.Common.{rules, tests, ◌∙◌}
use Rattle.std.proofs.lemmas.Iterator.{YieldsList-from_slice}
use Rattle.std.proofs.lemmas.Iterator.Search.{find_from_yields_List}
use Rattle.core_calls.specs.declared.pure.PureCall.{PureCall}
use Rattle.core_calls.specs.Calls.{has_signature}
use Rattle.core_calls.specs.PureCalls.{pure_signature, pure_call_with, pure_calls}
use Rattle.core_calls.proofs.CallsFound.{found}
use Rattle.core_calls.proofs.pure.PureCall.named.Goals as goal

pub returns : goal.returns
unfolding pure_call_with
returns c =
    let test = λ (kind : PureCall). has_signature c.args.module_name.now c.args.function_name.now c.args.arity (pure_signature kind) in
    c.copied.ensures ∙ find_from_yields_List test _ _ c.find.result c.find.ensures.ran (YieldsList-from_slice pure_calls cc) (λ x b q k. search (rules, tests)) ∙ found test pure_calls
