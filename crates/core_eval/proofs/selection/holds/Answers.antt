use Rattle.std.proofs.Common.{◌∙◌, ap, refl, sym}
use Rattle.core_tree.specs.Tree.{tree_of}
use Rattle.core_semantics.specs.Applications.{setting_of}
use Rattle.core_semantics.specs.Evaluation.{at_rest, evaluate, holds, keeping}
use Rattle.core_pure_calls.specs.Dictionary.{Dictionary}
use Rattle.core_stack.specs.Holes.{scope}
use Rattle.core_eval.specs.Filled.{through}
use Rattle.core_eval.proofs.Selecting.{apart, judged_apart}
use Rattle.core_eval.proofs.selection.holds.Goals as goal

pub returns : goal.returns
returns c = λ m.
    let own = c.args.own.now in
    c.gave_true.ensures
    ∙ sym (judged_apart m own c.advance.new.stack c.advance.new.dictionary c.in_ok-pause.pause)
    ∙ ap holds (c.in_ok-pause.ensures (setting_of m own) refl at_rest)
    ∙ ap (λ (d : Dictionary). holds (through (setting_of m own) c.push-2.new.self (evaluate (setting_of m own) (tree_of c.args.guard.now) (scope c.push-2.new.self) (keeping d at_rest)))) c.new-empty.ensures
    ∙ ap holds (apart (setting_of m own) c.new-apart.result c.push.new.self c.push-2.new.self (tree_of c.args.guard.now) c.args.bindings c.in_ok-variables.field-0 (scope c.args.stack.now) c.new-apart.ensures c.in_ok-push.ensures c.in_ok-push-2.ensures c.in_ok-variables.ensures)
