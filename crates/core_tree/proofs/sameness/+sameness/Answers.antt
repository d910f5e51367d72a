use Rattle.std.proofs.Common.{arith}
use Rattle.core_tree.proofs.SameItems.{rows_differ, rows_done, expr_differs, rows_go_on, choices_differ, choices_done, clause_differs, choices_go_on}
use Rattle.core_tree.proofs.sameness.+sameness.Goals as goal

pub same_exprs-returns-then-len : goal.same_exprs-returns-then-len
same_exprs-returns-then-len t c =
    rows_differ c.a.inside.0.items c.b.inside.0.items _ _ c.a.view_is c.b.view_is (λ e. omega arith)

pub same_exprs-returns-then-not-same_expr : goal.same_exprs-returns-then-not-same_expr
same_exprs-returns-then-not-same_expr t c =
    expr_differs c.a.inside.0.items c.b.inside.0.items _ _ c.a.view_is c.b.view_is c.loop-i.i _ _ _ (omega arith) c.loop-i.invariant.0 c.index.ensures c.index-in-loop-i.ensures c.loop-i.invariant.1 c.same_expr.ensures c.if-not-same_expr.true

pub same_exprs-loop-i-preserved : goal.same_exprs-loop-i-preserved
same_exprs-loop-i-preserved t c =
    (c.loop-i.invariant.0, rows_go_on c.a.inside.0.items c.b.inside.0.items _ _ c.a.view_is c.b.view_is c.loop-i.i _ _ _ (omega arith) c.loop-i.invariant.0 c.index.ensures c.index-in-loop-i.ensures c.loop-i.invariant.1 c.same_expr.ensures c.if-not-same_expr.false)

pub same_exprs-returns : goal.same_exprs-returns
same_exprs-returns t c =
    rows_done c.a.inside.0.items c.b.inside.0.items _ _ c.a.view_is c.b.view_is c.loop-i.i (omega arith) c.loop-i.invariant.0 c.loop-i.invariant.1

pub same_clauses-returns-then-len : goal.same_clauses-returns-then-len
same_clauses-returns-then-len t c =
    choices_differ c.a.inside.0.items c.b.inside.0.items _ _ c.a.view_is c.b.view_is (λ e. omega arith)

pub same_clauses-returns-then-not-same_clause : goal.same_clauses-returns-then-not-same_clause
same_clauses-returns-then-not-same_clause t c =
    clause_differs c.a.inside.0.items c.b.inside.0.items _ _ c.a.view_is c.b.view_is c.loop-i.i _ _ _ (omega arith) c.loop-i.invariant.0 c.index.ensures c.index-in-loop-i.ensures c.loop-i.invariant.1 c.same_clause.ensures c.if-not-same_clause.true

pub same_clauses-loop-i-preserved : goal.same_clauses-loop-i-preserved
same_clauses-loop-i-preserved t c =
    (c.loop-i.invariant.0, choices_go_on c.a.inside.0.items c.b.inside.0.items _ _ c.a.view_is c.b.view_is c.loop-i.i _ _ _ (omega arith) c.loop-i.invariant.0 c.index.ensures c.index-in-loop-i.ensures c.loop-i.invariant.1 c.same_clause.ensures c.if-not-same_clause.false)

pub same_clauses-returns : goal.same_clauses-returns
same_clauses-returns t c =
    choices_done c.a.inside.0.items c.b.inside.0.items _ _ c.a.view_is c.b.view_is c.loop-i.i (omega arith) c.loop-i.invariant.0 c.loop-i.invariant.1
