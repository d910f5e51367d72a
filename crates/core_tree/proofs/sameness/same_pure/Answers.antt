use Rattle.std.proofs.Common.{◌==◌, ◌∙◌}
use Rattle.core_calls.proofs.PureNumbers.{tag_is_number}
use Rattle.core_tree.proofs.sameness.same_pure.Goals as goal

pub returns : goal.returns
returns c = c.eq.ensures ∙ (λ i. tag_is_number c.args.a i == tag_is_number c.args.b i)
