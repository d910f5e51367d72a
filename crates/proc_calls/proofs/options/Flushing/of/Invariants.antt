use Rattle.std.proofs.Common.{◌≡◌}
use Rattle.term_core.specs.Meaning.{node_count}
use Rattle.term_core.specs.Term.{meaning_of}
use Rattle.world_model.specs.Calls.{flush_in, flushes_of}
use Rattle.world_model.specs.Terms.{each_in}
use Rattle.proc_calls.specs.Arguments.{flushes}
use Rattle.proc_calls.proofs.Listing.{or_more}
use Rattle.proc_calls.proofs.options.Flushing.of.Given as goal

abbrev pub decreases-loop-pair : goal.decreases-loop-pair
decreases-loop-pair l = node_count (meaning_of l.rest)

-- what the options so far and those that are left ask for is what the list asks for
abbrev pub invariant-loop-pair : goal.invariant-loop-pair
invariant-loop-pair l = or_more (flushes l.flushing) (each_in flush_in (meaning_of l.rest)) ≡ flushes_of (meaning_of l.options)
