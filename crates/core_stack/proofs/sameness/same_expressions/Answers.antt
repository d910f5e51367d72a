use Rattle.std.proofs.Common.{◌∙◌, sym}
use Rattle.core_tree.specs.Tree.{tree_of}
use Rattle.core_tree.specs.inside.AlikeLaws.{rows_tell, tree_bears}
use Rattle.core_stack.proofs.sameness.same_expressions.Goals as goal

pub returns : goal.returns
returns c = λ e. rows_tell tree_of tree_bears c.args.a.now c.args.b.now (sym c.eq.ensures ∙ e)
