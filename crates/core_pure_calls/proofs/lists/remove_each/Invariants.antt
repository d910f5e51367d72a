use Rattle.std.proofs.Common.{◌≡◌, map}
use Rattle.term_core.specs.Meaning.{node_count}
use Rattle.term_core.specs.Term.{meaning_of}
use Rattle.core_pure_calls.specs.Lists.{heads_of, without_each}
use Rattle.core_pure_calls.proofs.lists.remove_each.Given as goal

abbrev pub decreases-loop-pair : goal.decreases-loop-pair
decreases-loop-pair l = node_count (meaning_of l.rest)

-- what is left is still to be taken out
abbrev pub invariant-loop-pair : goal.invariant-loop-pair
invariant-loop-pair l = without_each (heads_of (meaning_of l.rest)) (map meaning_of l.items.items) ≡ without_each (heads_of (meaning_of l.taken)) (map meaning_of l.fn.items.items)
