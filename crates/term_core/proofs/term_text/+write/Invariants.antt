use Rattle.std.proofs.Common.{◌≡◌, ◌∷◌, ◌++◌, ◌+◌, ◌*◌, ◌≤◌, false, drop, map}
use Rattle.term_core.specs.Meaning.{node_count, sum_of_nodes, meanings_of}
use Rattle.term_core.specs.Term.{meaning_of}
use Rattle.term_core.specs.TermText.{text_of_term, text_of_tail, text_of_tuple}
use Rattle.term_core.proofs.Texts.{marked}
use Rattle.term_core.specs.inside.Writing.{Owes}
use Rattle.term_core.proofs.term_text.+write.Given as goal

abbrev pub decreases-write_term : goal.decreases-write_term
decreases-write_term g l = 4 * node_count (meaning_of l.term.now) + 1

abbrev pub decreases-write_behind : goal.decreases-write_behind
decreases-write_behind g l = 4 * node_count (meaning_of l.term.now) + 2

abbrev pub decreases-write_last_tail : goal.decreases-write_last_tail
decreases-write_last_tail g l = 4 * node_count (meaning_of l.tail.now) + 3

abbrev pub decreases-write_tuple : goal.decreases-write_tuple
decreases-write_tuple g l = 4 * sum_of_nodes l.parts.now + 3

abbrev pub decreases-write_list : goal.decreases-write_list
decreases-write_list g l = 4 * (node_count l.pair.now.0 + node_count l.pair.now.1) + 4

-- the sink is sound, and the parts that are left are still to be written
abbrev pub invariant-write_tuple-loop-part : goal.invariant-write_tuple-loop-part
invariant-write_tuple-loop-part g l =
    (g.S.Sink.has_failed l.sink ≡ false) × Owes (g.S.Sink.contents l.fn.sink) (g.S.Sink.contents l.sink) (marked l.mark (meanings_of (map meaning_of (drop l.part-index l.part-items)))) (text_of_tuple (meanings_of l.fn.parts))

-- the sink is sound, and the tail that is left is still to be written
abbrev pub invariant-write_list-loop-rest : goal.invariant-write_list-loop-rest
invariant-write_list-loop-rest g l =
    (node_count (meaning_of l.rest) ≤ node_count l.fn.pair.1) × (g.S.Sink.has_failed l.sink ≡ false) × Owes (g.S.Sink.contents l.fn.sink) (g.S.Sink.contents l.sink) (text_of_tail (meaning_of l.rest)) (91 ∷ (text_of_term l.fn.pair.0 ++ text_of_tail l.fn.pair.1))
