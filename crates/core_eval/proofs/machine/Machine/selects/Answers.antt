use Rattle.std.proofs.Common.{◌≡◌, ◌∙◌, ap, sym, subst, rules, IfOk}
use Rattle.std.specs.Prelude.{None, Some}
use Rattle.core_tree.specs.Syntax.{ModuleTree, clauses_of}
use Rattle.term_core.specs.Term.{meaning_of}
use Rattle.core_semantics.specs.Applications.{setting_of}
use Rattle.core_semantics.specs.Evaluation.{selects}
use Rattle.core_stack.specs.Holes.{scope}
use Rattle.core_eval.specs.Standing.{Standing}
use Rattle.core_eval.proofs.Selecting.{answers_as, takes_as}
use Rattle.core_eval.proofs.machine.Machine.selects.Goals as goal

pub returns-in-Some-clause-selected : goal.returns-in-Some-clause-selected
returns-in-Some-clause-selected c =
    let at = c.args.self.now in
    let same : c.in-Some.receive.now.1 ≡ c.as_slice-clauses.result.now = search rules in
    answers_as c.selects.result at.program at.own at.holes at.dictionary at.told (meaning_of c.args.message.now) c.as_slice-clauses.result.now (ap Some (sym same) ∙ c.in-Some.ensures)
    (subst (λ (v : Standing). IfOk c.selects.result (λ found. (m : ModuleTree) → found ≡ selects (setting_of m v.own) (clauses_of c.as_slice-clauses.result.now) (scope v.holes) (meaning_of c.args.message.now))) c.self.view_is c.selects.ensures)

pub returns-in-None-clause-selected : goal.returns-in-None-clause-selected
returns-in-None-clause-selected c =
    let at = c.args.self.now in
    takes_as (setting_of at.program at.own) at.holes at.dictionary at.told (meaning_of c.args.message.now) None (c.in-None.ensures)
