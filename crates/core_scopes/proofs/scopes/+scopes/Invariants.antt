use Rattle.std.proofs.Common.{◌≡◌, map, drop}
use Rattle.core_tree.specs.Syntax.{trees_of, clauses_of}
use Rattle.core_tree.specs.Tree.{tree_of}
use Rattle.core_scopes.specs.inside.Environment.{bound_in, setting_in}
use Rattle.core_scopes.specs.ScopeChecks.{check_trees, check_clauses}
use Rattle.core_scopes.proofs.scopes.+scopes.Given as goal

abbrev pub invariant-check_exprs-exprs : goal.invariant-check_exprs-exprs
invariant-check_exprs-exprs l =
    check_trees (setting_in l.setting) (bound_in l.scope) (trees_of (map tree_of (drop l.expr-index l.expr-items))) ≡ check_trees (setting_in l.setting) (bound_in l.scope) (trees_of (map tree_of l.expr-items))

abbrev pub invariant-check_clauses-clauses : goal.invariant-check_clauses-clauses
invariant-check_clauses-clauses l =
    check_clauses (setting_in l.setting) (bound_in l.scope) (clauses_of (drop l.clause-index l.clause-items)) ≡ check_clauses (setting_in l.setting) (bound_in l.scope) (clauses_of l.clause-items)
