use Rattle.std.proofs.Common.{◌≤◌, arith}
use Rattle.term_core.specs.Meaning.{node_count, sum_of_nodes}
use Rattle.term_core.specs.Term.{meaning_of}
use Rattle.tree_excuses.proofs.Matching.{differ, part}
use Rattle.tree_excuses.proofs.patterns.+patterns.Goals as goal

pub all_match-returns-then-patterns-terms : goal.all_match-returns-then-patterns-terms
all_match-returns-then-patterns-terms t c = rw (← c.as_slice-patterns.ensures, ← c.as_slice-terms.ensures) (differ c.as_slice-patterns.result.now c.as_slice-terms.result.now (λ e. absurd (omega arith)))

pub all_match-matches-requires : goal.all_match-matches-requires
all_match-matches-requires t c =
    let k : node_count (meaning_of c.index-patterns-i.result) ≤ sum_of_nodes c.args.left.now = rw (← c.as_slice-patterns.ensures) (part c.as_slice-patterns.result.now c.loop-i.i c.index-patterns-i.result (omega arith) c.index-patterns-i.is) in
    (omega (arith, k), tt)
