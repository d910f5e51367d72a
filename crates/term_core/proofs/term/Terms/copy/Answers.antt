use Rattle.std.proofs.Common.{map}
use Rattle.std.proofs.lemmas.List.{at_drop_all}
use Rattle.term_core.specs.Term.{meaning_of}
use Rattle.term_core.proofs.Sizes.{all_copied}
use Rattle.term_core.proofs.term.Terms.copy.Goals as goal

pub invariant_of-result : goal.invariant_of-result
invariant_of-result c =
    all_copied (map meaning_of c.loop-part.items.items) _ (map meaning_of c.self.inside.items.items) _ c.loop-part.invariant (at_drop_all (map meaning_of) c.deref-part-items.result.now c.loop-part.part-index c.loop-part-test.false) c.self.invariant
