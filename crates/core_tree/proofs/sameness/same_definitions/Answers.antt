use Rattle.std.proofs.Common.{◌∙◌}
use Rattle.std.specs.Cmp.Lexicographic.{pointwise}
use Rattle.core_tree.proofs.SameItems.{entries_same, same_entry}
use Rattle.core_tree.proofs.sameness.same_definitions.Goals as goal

pub returns : goal.returns
returns c =
    c.eq.ensures ∙ (λ i. pointwise same_entry (c.as_slice.ensures.entries i) (c.as_slice-2.ensures.entries i)) ∙ entries_same c.args.a.now.entries c.args.b.now.entries
