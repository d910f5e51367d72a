use Rattle.std.proofs.Common.{◌∙◌, sym}
use Rattle.core_tree.specs.inside.AlikeLaws.{clause_bears, list_bears}
use Rattle.core_stack.proofs.sameness.same_clauses.Goals as goal

pub returns : goal.returns
returns c = λ e. (list_bears clause_bears).tells c.args.a.now c.args.b.now (sym c.eq.ensures ∙ e)
