use Rattle.std.proofs.Common.{◌≡◌, ◌∙◌, ◌≢◌, List, Err, arith, subst}
use Rattle.std.proofs.lemmas.Result.{err_from_is_err_and}
use Rattle.core_tokens.specs.declared.fault.ReadFault.TheVariants.{Memory}
use Rattle.core_tree.specs.Syntax.{ClauseTree, clauses_of}
use Rattle.core_scopes.specs.inside.Environment.{bound_in, setting_in}
use Rattle.core_scopes.specs.ScopeChecks.{check_clauses}
use Rattle.core_scopes.proofs.ScopeLoops.{clauses_fail}
use Rattle.core_scopes.proofs.scopes.+scopes.Goals as goal

pub check_clauses-returns-in_err-check_clause : goal.check_clauses-returns-in_err-check_clause
check_clauses-returns-in_err-check_clause t c =
    let p = err_from_is_err_and c.from_residual.result c.from_residual.ensures.1 in
    let x = setting_in c.args.setting.now in
    let bound = bound_in c.args.scope.now in
    let cs = c.deref-clause-items.result.now in
    let all : cs ≡ c.args.clauses.now = c.deref-clause-items.ensures.value ∙ c.clauses-2.view_is in
    rw (p.1, p.2) (subst (λ (ds : List ClauseTree). c.in_err-check_clause.field-0.0 ≢ Memory → check_clauses x bound (clauses_of ds) ≡ Err c.in_err-check_clause.field-0.0) all
    (clauses_fail x bound cs c.clauses.clause-index c.clause-item.result _ _ (omega arith) c.clause-item.is c.clauses.invariant c.in_err-check_clause.ensures))
