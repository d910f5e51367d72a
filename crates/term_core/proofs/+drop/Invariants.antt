use Rattle.std.proofs.Common.{◌≤◌}
use Rattle.term_core.specs.Meaning.{node_count}
use Rattle.term_core.specs.Term.{meaning_of}
use Rattle.term_core.proofs.+drop.Given as goal

-- what is left to drop is no larger than the tail was
abbrev pub invariant-term::Pair::drop-loop-tail : goal.invariant-term::Pair::drop-loop-tail
invariant-term::Pair::drop-loop-tail l = node_count (meaning_of l.tail) ≤ node_count l.fn.self.1
