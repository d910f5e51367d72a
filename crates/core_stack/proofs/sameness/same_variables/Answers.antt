use Rattle.std.proofs.Common.{◌∙◌, sym}
use Rattle.core_tree.specs.inside.AlikeLaws.{list_bears, mention_bears}
use Rattle.core_stack.proofs.sameness.same_variables.Goals as goal

pub returns : goal.returns
returns c = λ e. (list_bears mention_bears).tells c.args.a.now c.args.b.now (sym c.eq.ensures ∙ e)
