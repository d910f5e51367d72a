use Rattle.std.proofs.Common.{rules, tests, ◌∙◌}
use Rattle.std.proofs.lemmas.Iterator.{YieldsList-from_slice}
use Rattle.std.proofs.lemmas.Iterator.Search.{find_from_yields_List}
use Rattle.core_calls.specs.declared.call.CallKind.{CallKind}
use Rattle.core_calls.specs.Calls.{signature, has_signature, call_with, calls}
use Rattle.core_calls.proofs.CallsFound.{found}
use Rattle.core_calls.proofs.call.CallKind.named.Goals as goal

pub returns : goal.returns
unfolding call_with
returns c =
    let test = λ (kind : CallKind). has_signature c.args.module_name.now c.args.function_name.now c.args.arity (signature kind) in
    c.copied.ensures ∙ find_from_yields_List test _ _ c.find.result c.find.ensures.ran (YieldsList-from_slice calls cc) (λ x b q k. search (rules, tests)) ∙ found test calls
