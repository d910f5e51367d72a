use Rattle.std.proofs.Common.{◌≡◌, take, map}
use Rattle.core_tree.specs.Tree.{tree_of}
use Rattle.core_copies.proofs.expressions.+expressions.Given as goal

abbrev pub invariant-copy_exprs-loop-expr : goal.invariant-copy_exprs-loop-expr
invariant-copy_exprs-loop-expr l = map tree_of l.copied.items ≡ map tree_of (take l.expr-index l.expr-items)

abbrev pub invariant-copy_clauses-loop-clause : goal.invariant-copy_clauses-loop-clause
invariant-copy_clauses-loop-clause l = l.copied.items ≡ take l.clause-index l.clause-items
