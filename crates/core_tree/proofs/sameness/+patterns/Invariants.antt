use Rattle.std.proofs.Common.{◌≡◌, length, drop}
use Rattle.core_tree.specs.Alike.{same_pattern_list}
use Rattle.core_tree.proofs.sameness.+patterns.Given as goal

abbrev pub invariant-same_patterns-loop-i : goal.invariant-same_patterns-loop-i
invariant-same_patterns-loop-i l =
    (length l.a-inside.0.items ≡ length l.b-inside.0.items) × (same_pattern_list (drop l.i l.a) (drop l.i l.b) ≡ same_pattern_list l.a l.b)
