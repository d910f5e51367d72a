use Rattle.std.proofs.Common.{◌≡◌, length, drop}
use Rattle.core_tree.proofs.SameItems.{same_rows, same_choices}
use Rattle.core_tree.proofs.sameness.+sameness.Given as goal

abbrev pub invariant-same_exprs-loop-i : goal.invariant-same_exprs-loop-i
invariant-same_exprs-loop-i l =
    (length l.a-inside.0.items ≡ length l.b-inside.0.items) × (same_rows (drop l.i l.a) (drop l.i l.b) ≡ same_rows l.a l.b)

abbrev pub invariant-same_clauses-loop-i : goal.invariant-same_clauses-loop-i
invariant-same_clauses-loop-i l =
    (length l.a-inside.0.items ≡ length l.b-inside.0.items) × (same_choices (drop l.i l.a) (drop l.i l.b) ≡ same_choices l.a l.b)
