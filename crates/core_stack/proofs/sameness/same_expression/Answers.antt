use Rattle.std.proofs.Common.{◌∙◌, sym}
use Rattle.core_tree.specs.Tree.{tree_of}
use Rattle.core_tree.specs.inside.AlikeLaws.{tree_bears}
use Rattle.core_stack.proofs.sameness.same_expression.Goals as goal

pub returns : goal.returns
returns c = λ e. tree_bears.tells (tree_of c.args.a.now) (tree_of c.args.b.now) (sym c.eq.ensures ∙ e)
