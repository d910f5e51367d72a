use Rattle.std.proofs.Common.{◌≡◌, ◌+◌, ◌-◌, ◌^◌, ◌<◌, min, length}
use Rattle.term_core.specs.Meaning.{node_count}
use Rattle.term_core.specs.Term.{meaning_of}
use Rattle.core_pure_calls.specs.Lists.{heads_of}
use Rattle.core_pure_calls.proofs.lists.cells.Given as goal

abbrev pub decreases-loop-pair : goal.decreases-loop-pair
decreases-loop-pair l = node_count (meaning_of l.rest)

-- the cells so far, and those that are left, are the cells of the list
abbrev pub invariant-loop-pair : goal.invariant-loop-pair
invariant-loop-pair l =
    (l.cells < 2 ^ 64) × (min (l.cells + length (heads_of (meaning_of l.rest))) (2 ^ 64 - 1) ≡ min (length (heads_of (meaning_of l.list))) (2 ^ 64 - 1))
