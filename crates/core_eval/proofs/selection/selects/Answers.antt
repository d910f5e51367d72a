use Rattle.term_core.specs.Term.{meaning_of}
use Rattle.core_semantics.specs.Applications.{setting_of}
use Rattle.core_stack.specs.Holes.{scope}
use Rattle.core_eval.proofs.Fitting.{clause_selects, clause_passes}
use Rattle.core_eval.proofs.selection.selects.Goals as goal

pub returns-then-branch : goal.returns-then-branch
returns-then-branch c = λ m.
    clause_selects (setting_of m c.args.own.now) c.args.clauses.now c.loop-clause.left.now c.in-Some.others.now c.in-Some.clause.now (scope c.args.stack.now) (meaning_of c.args.message.now)
    c.in-Some.ensures.cases.0 (c.loop-clause.invariant m) c.in_ok-takes.field-0 (c.in_ok-takes.ensures m) c.if-branch.true

pub loop-clause-preserved : goal.loop-clause-preserved
loop-clause-preserved c = λ m.
    clause_passes (setting_of m c.args.own.now) c.args.clauses.now c.loop-clause.left.now c.in-Some.others.now c.in-Some.clause.now (scope c.args.stack.now) (meaning_of c.args.message.now)
    c.in-Some.ensures.cases.0 (c.loop-clause.invariant m) c.in_ok-takes.field-0 (c.in_ok-takes.ensures m) c.if-branch.false
