use Rattle.std.proofs.Common.{◌≡◌, ◌∷◌, ◌∙◌, [], true, false, ap, sym}
use Rattle.std.specs.Prelude.{is_some}
use Rattle.term_core.specs.Term.{meaning_of}
use Rattle.core_tree.specs.Syntax.{ClauseTree, patterns_of}
use Rattle.core_semantics.specs.Applications.{setting_of}
use Rattle.core_semantics.specs.Evaluation.{at_rest, evaluate}
use Rattle.core_stack.specs.Holes.{scope}
use Rattle.core_stack.specs.Matching.{match_each}
use Rattle.core_eval.proofs.Fitting.{true_is_taken, unmatched_is_not}
use Rattle.core_eval.proofs.selection.takes.Goals as goal

pub returns-then-not-fits_alone : goal.returns-then-not-fits_alone
returns-then-not-fits_alone c = λ m.
    let message = meaning_of c.args.message.now ∷ [] in
    let found = match_each (patterns_of c.args.clause.now.patterns) message [] in
    let none : is_some found ≡ false = ap (λ (d : ClauseTree). is_some (match_each (patterns_of d.patterns) message [])) (sym c.clause.view_is) ∙ sym c.fits_alone.ensures ∙ c.if-not-fits_alone.true in
    sym (unmatched_is_not found (scope c.args.stack.now) (λ inner. evaluate (setting_of m c.args.own.now) c.args.clause.now.guard inner at_rest) none)

pub returns-then-is_true : goal.returns-then-is_true
returns-then-is_true c = λ m.
    let message = meaning_of c.args.message.now ∷ [] in
    let found = match_each (patterns_of c.args.clause.now.patterns) message [] in
    let some : is_some found ≡ true = ap (λ (d : ClauseTree). is_some (match_each (patterns_of d.patterns) message [])) (sym c.clause.view_is) ∙ sym c.fits_alone.ensures ∙ c.if-not-fits_alone.false in
    true_is_taken (setting_of m c.args.own.now) found (scope c.args.stack.now) c.args.clause.now.guard some
    (ap (λ (d : ClauseTree). d.guard) (sym c.clause.view_is) ∙ c.is_true.ensures c.if-is_true.true)
