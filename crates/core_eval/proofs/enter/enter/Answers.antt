use Rattle.std.proofs.Common.{◌≡◌, IfOk, sym, ap, subst, ◌∙◌, arith}
use Rattle.core_tree.specs.Syntax.{Tree}
use Rattle.core_tree.specs.Expression as trees
use Rattle.core_tree.specs.Tree.{tree_of}
use Rattle.core_semantics.specs.Evaluation.{evaluate}
use Rattle.core_stack.specs.Holes.{scope}
use Rattle.core_eval.specs.inside.Steps.{Enters}
use Rattle.core_eval.proofs.Errors.{enters}
use Rattle.core_eval.proofs.enter.enter.Goals as goal

pub returns-in-Text : goal.returns-in-Text
returns-in-Text c =
    let same : tree_of c.args.expression.now ≡ trees.Text c.deref.result.now = ap tree_of c.in-Text.is ∙ ap trees.Text (sym c.deref.ensures.value) in
    subst (λ (t : Tree). IfOk c.text.result (λ next. Enters c.args.stack.now c.args.stack.now next t)) (sym same)
    (enters c.text.result c.args.stack.now (λ setting s. evaluate setting (trees.Text c.deref.result.now) (scope c.args.stack.now) s) 4 c.text.ensures.same c.text.ensures.less (omega arith))
