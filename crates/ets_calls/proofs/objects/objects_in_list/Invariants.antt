use Rattle.std.proofs.Common.{◌≡◌}
use Rattle.term_core.specs.Meaning.{node_count}
use Rattle.term_core.specs.Term.{meaning_of}
use Rattle.world_model.specs.Terms.{each_in, parts_in}
use Rattle.ets_calls.proofs.Listing.{onto}
use Rattle.ets_calls.proofs.objects.objects_in_list.Given as goal

abbrev pub decreases-loop-pair : goal.decreases-loop-pair
decreases-loop-pair l = node_count (meaning_of l.rest)

-- the objects so far, before those that are left, are those of the list
abbrev pub invariant-loop-pair : goal.invariant-loop-pair
invariant-loop-pair l = onto l.objects.items (each_in parts_in (meaning_of l.rest)) ≡ each_in parts_in (meaning_of l.list)
