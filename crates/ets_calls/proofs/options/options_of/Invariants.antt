use Rattle.std.proofs.Common.{◌≡◌, map}
use Rattle.term_core.specs.Meaning.{node_count}
use Rattle.term_core.specs.Term.{meaning_of}
use Rattle.world_model.specs.Terms.{each_in}
use Rattle.world_model.specs.Tables.{option_of}
use Rattle.ets_calls.specs.Options.{option_in}
use Rattle.ets_calls.proofs.Listing.{onto}
use Rattle.ets_calls.proofs.options.options_of.Given as goal

abbrev pub decreases-loop-pair : goal.decreases-loop-pair
decreases-loop-pair l = node_count (meaning_of l.rest)

-- the options so far, before those that are left, are those of the list
abbrev pub invariant-loop-pair : goal.invariant-loop-pair
invariant-loop-pair l = onto (map option_in l.options.items) (each_in option_of (meaning_of l.rest)) ≡ each_in option_of (meaning_of l.list)
