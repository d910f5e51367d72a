use Rattle.std.proofs.Common.{◌+◌, List, [], ◌∷◌, drop, subst, arith}
use Rattle.std.proofs.lemmas.Result.{err_from_is_err_and}
use Rattle.core_tree.specs.Syntax.{Mention}
use Rattle.core_scopes.specs.inside.Environment.{shown}
use Rattle.core_scopes.proofs.Binding.{Adding, adding_next, adding_fails, adding_done}
use Rattle.core_scopes.proofs.ScopeLoops.{drop_item, drop_all}
use Rattle.core_scopes.proofs.scopes.distinct.Goals as goal

pub returns-in_err-bind : goal.returns-in_err-bind
returns-in_err-bind c =
    let p = err_from_is_err_and c.from_residual.result c.from_residual.ensures.1 in
    let vs = c.args.variables.now in
    let so_far : Adding [] vs (shown c.variables.names.keys) (c.variable-item.result ∷ drop (c.variables.variable-index + 1) vs) =
    subst (λ (ws : List Mention). Adding [] vs (shown c.variables.names.keys) ws) (drop_item vs c.variables.variable-index c.variable-item.result (omega arith) c.variable-item.is) c.variables.invariant in
    rw (p.1, p.2) (adding_fails [] vs (c.variable-item.result ∷ []) _ _ _ so_far c.in_err-bind.ensures)

pub variables-preserved : goal.variables-preserved
variables-preserved c =
    let vs = c.args.variables.now in
    let so_far : Adding [] vs (shown c.variables.names.keys) (c.variable-item.result ∷ drop (c.variables.variable-index + 1) vs) =
    subst (λ (ws : List Mention). Adding [] vs (shown c.variables.names.keys) ws) (drop_item vs c.variables.variable-index c.variable-item.result (omega arith) c.variable-item.is) c.variables.invariant in
    adding_next [] vs (c.variable-item.result ∷ []) _ _ _ so_far c.in_ok-bind.ensures

pub returns : goal.returns
returns c =
    let vs = c.args.variables.now in
    adding_done [] vs _ (subst (λ (ws : List Mention). Adding [] vs (shown c.variables.names.keys) ws) (drop_all vs c.variables.variable-index (omega arith)) c.variables.invariant)
