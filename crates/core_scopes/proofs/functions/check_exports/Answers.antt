use Rattle.std.proofs.Common.{◌≡◌, true, false, sym, ap, ◌∙◌, arith, Err}
use Rattle.core_tree.specs.Syntax.{NamedAt}
use Rattle.core_tokens.specs.declared.fault.ReadFault.TheVariants.{NoFunction}
use Rattle.core_tree.specs.Definitions.{keys_in}
use Rattle.core_scopes.specs.ScopeChecks.{is_defined}
use Rattle.core_scopes.proofs.Gathering.{exports_here, exports_next, exports_done}
use Rattle.core_scopes.proofs.functions.check_exports.Goals as goal

pub returns-then-not-is_defined : goal.returns-then-not-is_defined
returns-then-not-is_defined c =
    let defined = keys_in c.args.definitions.now.entries in
    let absent : is_defined defined c.export-item.result.function ≡ false = ap (λ (e : NamedAt). is_defined defined e.function) (sym c.export.view_is) ∙ sym c.is_defined.ensures ∙ c.if-not-is_defined.true in
    ap (λ (e : NamedAt). Err (NoFunction e.at)) c.export.view_is ∙ sym (exports_here defined c.args.exports.now c.loop-export.export-index c.export-item.result _ (omega arith) c.export-item.is absent c.loop-export.invariant)

pub loop-export-preserved : goal.loop-export-preserved
loop-export-preserved c =
    let defined = keys_in c.args.definitions.now.entries in
    let there : is_defined defined c.export-item.result.function ≡ true = ap (λ (e : NamedAt). is_defined defined e.function) (sym c.export.view_is) ∙ sym c.is_defined.ensures ∙ c.if-not-is_defined.false in
    exports_next defined c.args.exports.now c.loop-export.export-index c.export-item.result _ (omega arith) c.export-item.is there c.loop-export.invariant

pub returns : goal.returns
returns c = sym (exports_done (keys_in c.args.definitions.now.entries) c.args.exports.now c.loop-export.export-index _ (omega arith) c.loop-export.invariant)
