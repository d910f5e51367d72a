use Rattle.std.proofs.Common.{◌≡◌, length, drop}
use Rattle.core_tree.proofs.SameItems.{same_values}
use Rattle.core_tree.proofs.sameness.+constants.Given as goal

abbrev pub invariant-same_consts-loop-i : goal.invariant-same_consts-loop-i
invariant-same_consts-loop-i l =
    (length l.a-inside.0.items ≡ length l.b-inside.0.items) × (same_values (drop l.i l.a) (drop l.i l.b) ≡ same_values l.a l.b)
