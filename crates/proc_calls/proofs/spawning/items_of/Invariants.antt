use Rattle.std.proofs.Common.{◌≡◌}
use Rattle.term_core.specs.Meaning.{node_count}
use Rattle.term_core.specs.Term.{meaning_of}
use Rattle.world_model.specs.Terms.{items_in}
use Rattle.proc_calls.proofs.Listing.{onto}
use Rattle.proc_calls.proofs.spawning.items_of.Given as goal

abbrev pub decreases-loop-pair : goal.decreases-loop-pair
decreases-loop-pair l = node_count (meaning_of l.rest)

-- the items so far, before those that are left, are those of the list
abbrev pub invariant-loop-pair : goal.invariant-loop-pair
invariant-loop-pair l = onto l.items (items_in (meaning_of l.rest)) ≡ items_in (meaning_of l.list)
