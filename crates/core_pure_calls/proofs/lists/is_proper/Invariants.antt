use Rattle.std.proofs.Common.{◌≡◌}
use Rattle.term_core.specs.Meaning.{node_count}
use Rattle.term_core.specs.Term.{meaning_of}
use Rattle.core_pure_calls.specs.Lists.{is_proper}
use Rattle.core_pure_calls.proofs.lists.is_proper.Given as goal

abbrev pub decreases-loop-pair : goal.decreases-loop-pair
decreases-loop-pair l = node_count (meaning_of l.rest)

-- the last tail of what is left is that of the list
abbrev pub invariant-loop-pair : goal.invariant-loop-pair
invariant-loop-pair l = is_proper (meaning_of l.rest) ≡ is_proper (meaning_of l.list)
