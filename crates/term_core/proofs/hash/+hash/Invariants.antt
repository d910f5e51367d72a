use Rattle.std.proofs.Common.{◌≡◌, ◌≤◌, drop}
use Rattle.std.specs.List.{fold, flat_map}
use Rattle.term_core.specs.Term.{meaning_of}
use Rattle.term_core.specs.HashInput.{writes_of_term, writes_of_items}
use Rattle.term_core.specs.declared.term.Pair.TheDeep.{deep-Term}
use Rattle.term_core.proofs.hash.+hash.Given as goal

abbrev pub invariant-feed_parts-loop-i : goal.invariant-feed_parts-loop-i
invariant-feed_parts-loop-i g l =
    fold g.H.Hasher.write l.state (flat_map writes_of_term (drop l.i l.parts)) ≡ fold g.H.Hasher.write l.fn.state (writes_of_items l.parts)

abbrev pub invariant-feed_term-loop-rest : goal.invariant-feed_term-loop-rest
invariant-feed_term-loop-rest g l =
    (fold g.H.Hasher.write l.state (writes_of_term (meaning_of l.rest)) ≡ fold g.H.Hasher.write l.fn.state (writes_of_term (meaning_of l.term))) × (deep-Term l.rest ≤ deep-Term l.term)
