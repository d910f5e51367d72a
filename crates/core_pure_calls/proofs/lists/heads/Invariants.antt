use Rattle.std.proofs.Common.{◌≡◌, ◌++◌, map}
use Rattle.term_core.specs.Meaning.{node_count}
use Rattle.term_core.specs.Term.{meaning_of}
use Rattle.core_pure_calls.specs.Lists.{heads_of}
use Rattle.core_pure_calls.proofs.lists.heads.Given as goal

abbrev pub decreases-loop-pair : goal.decreases-loop-pair
decreases-loop-pair l = node_count (meaning_of l.rest)

-- the copied heads, and those that are left, are the heads of the list
abbrev pub invariant-loop-pair : goal.invariant-loop-pair
invariant-loop-pair l = map meaning_of l.copied.items ++ heads_of (meaning_of l.rest) ≡ heads_of (meaning_of l.list)
