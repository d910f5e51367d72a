use Rattle.std.proofs.Common.{◌≡◌, map}
use Rattle.term_core.specs.Meaning.{node_count}
use Rattle.term_core.specs.Term.{meaning_of}
use Rattle.world_model.specs.Calls.{addition_of}
use Rattle.world_model.specs.Terms.{each_in}
use Rattle.ets_calls.specs.Arguments.{addition_in}
use Rattle.ets_calls.proofs.Listing.{onto}
use Rattle.ets_calls.proofs.increment.additions_in_list.Given as goal

abbrev pub decreases-loop-pair : goal.decreases-loop-pair
decreases-loop-pair l = node_count (meaning_of l.rest)

-- the additions so far, before those that are left, are those of the list
abbrev pub invariant-loop-pair : goal.invariant-loop-pair
invariant-loop-pair l = onto (map addition_in l.additions.items) (each_in addition_of (meaning_of l.rest)) ≡ each_in addition_of (meaning_of l.list)
