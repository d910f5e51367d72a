use Rattle.std.proofs.Common.{◌≡◌}
use Rattle.term_core.specs.Meaning.{node_count}
use Rattle.term_core.specs.Term.{meaning_of}
use Rattle.core_pure_calls.specs.Lists.{heads_of, one_equals}
use Rattle.core_pure_calls.proofs.lists.one_equals.Given as goal

abbrev pub decreases-loop-pair : goal.decreases-loop-pair
decreases-loop-pair l = node_count (meaning_of l.rest)

-- an item that is equal is in what is left
abbrev pub invariant-loop-pair : goal.invariant-loop-pair
invariant-loop-pair l = one_equals (meaning_of l.wanted) (heads_of (meaning_of l.rest)) ≡ one_equals (meaning_of l.wanted) (heads_of (meaning_of l.list))
