use Rattle.std.proofs.Common.{◌≡◌, map}
use Rattle.term_core.specs.Meaning.{node_count}
use Rattle.term_core.specs.Term.{meaning_of}
use Rattle.world_model.specs.Calls.{change_of}
use Rattle.world_model.specs.Terms.{each_in}
use Rattle.ets_store.specs.Parts.{part_in}
use Rattle.ets_calls.proofs.Listing.{onto}
use Rattle.ets_calls.proofs.changes.changes_in_list.Given as goal

abbrev pub decreases-loop-pair : goal.decreases-loop-pair
decreases-loop-pair l = node_count (meaning_of l.rest)

-- the changes so far, before those that are left, are those of the list
abbrev pub invariant-loop-pair : goal.invariant-loop-pair
invariant-loop-pair l = onto (map part_in l.changes.items) (each_in change_of (meaning_of l.rest)) ≡ each_in change_of (meaning_of l.list)
