use Rattle.std.proofs.Common.{◌≡◌, ◌+◌, ◌*◌, ◌≤◌, length}
use Rattle.term_core.specs.Meaning.{meanings_of, node_count, sum_of_nodes}
use Rattle.term_core.specs.Term.{meaning_of}
use Rattle.tree_excuses.specs.Patterns.{all_match, matches}
use Rattle.tree_excuses.proofs.Matching.{all_from}
use Rattle.tree_excuses.proofs.patterns.+patterns.Given as goal

abbrev pub decreases-matches : goal.decreases-matches
decreases-matches l = 2 * node_count (meaning_of l.pattern.now)

abbrev pub decreases-all_match : goal.decreases-all_match
decreases-all_match l = 2 * sum_of_nodes l.left.now + 1

abbrev pub invariant-matches-loop-left : goal.invariant-matches-loop-left
invariant-matches-loop-left l =
    (matches (meaning_of l.left) (meaning_of l.right) ≡ matches (meaning_of l.pattern) (meaning_of l.term)) × (node_count (meaning_of l.left) ≤ node_count (meaning_of l.pattern))

abbrev pub invariant-all_match-loop-i : goal.invariant-all_match-loop-i
invariant-all_match-loop-i l =
    (length l.patterns ≡ length l.terms) × (all_from l.i l.patterns l.terms ≡ all_match (meanings_of l.left) (meanings_of l.right))
