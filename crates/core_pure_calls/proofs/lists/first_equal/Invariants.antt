use Rattle.std.proofs.Common.{◌≡◌, ◌+◌, drop, map, option_map}
use Rattle.term_core.specs.Term.{meaning_of}
use Rattle.core_pure_calls.specs.inside.Walks.{first_equal}
use Rattle.core_pure_calls.proofs.lists.first_equal.Given as goal

-- the first place among the items that are left, counted from the beginning
abbrev pub invariant-loop-i : goal.invariant-loop-i
invariant-loop-i l = option_map (λ k. l.i + k) (first_equal (meaning_of l.wanted) (map meaning_of (drop l.i l.items))) ≡ first_equal (meaning_of l.wanted) (map meaning_of l.items)
