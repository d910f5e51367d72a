use Rattle.std.proofs.Common.{◌≡◌, ◌∙◌, [], ap, sym, if◌then◌else◌}
use Rattle.std.specs.Prelude.{Some, None}
use Rattle.core_tree.specs.Syntax.{ClauseTree, patterns_of}
use Rattle.core_stack.specs.Matching.{match_each}
use Rattle.core_eval.proofs.Choosing.{none_taken, clause_taken}
use Rattle.core_eval.proofs.leave.choose.Goals as goal

pub returns-then-branch : goal.returns-then-branch
returns-then-branch c =
    let found : match_each (patterns_of c.in-Some.clause.now.patterns) c.args.values [] ≡ Some c.matches_each.new.bindings =
    ap (λ (d : ClauseTree). match_each (patterns_of d.patterns) c.args.values []) (sym c.clause.view_is)
    ∙ ap (λ before. match_each (patterns_of c.clause.inside.patterns) c.args.values before) (sym c.new-bindings.ensures)
    ∙ c.in_ok-matches_each.ensures
    ∙ ap (λ b. if b then Some c.matches_each.new.bindings else None) c.if-branch.true in
    clause_taken c.judge.result _ c.loop-clause.stack c.judge.new.stack _ c.loop-clause.left.now c.in-Some.others.now c.in-Some.clause.now c.args.values c.matches_each.new.bindings
    c.loop-clause.invariant c.in-Some.ensures.cases.0 found c.judge.ensures

pub returns : goal.returns
returns c =
    none_taken c.no_clause.result _ c.loop-clause.stack _ c.loop-clause.left.now c.args.values c.loop-clause.invariant c.in_default.ensures.cases c.no_clause.ensures.same c.no_clause.ensures.less
