use Rattle.std.proofs.Common.{◌≡◌}
use Rattle.term_core.specs.Meaning.{node_count}
use Rattle.term_core.specs.Term.{meaning_of}
use Rattle.world_model.specs.Calls.{end_alone, end_of}
use Rattle.world_model.specs.Terms.{each_in}
use Rattle.proc_calls.proofs.Listing.{last_of}
use Rattle.proc_calls.proofs.guarding.end_in.Given as goal

abbrev pub decreases-loop-pair : goal.decreases-loop-pair
decreases-loop-pair l = node_count (meaning_of l.rest)

-- the last of what was read so far and of what is left is what the list asks for
abbrev pub invariant-loop-pair : goal.invariant-loop-pair
invariant-loop-pair l = last_of l.end (each_in end_alone (meaning_of l.rest)) ≡ end_of (meaning_of l.options)
