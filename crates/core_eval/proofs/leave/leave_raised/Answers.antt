use Rattle.std.proofs.Common.{sym, subst, arith, IfOk}
use Rattle.term_core.specs.Term.{meaning_of}
use Rattle.core_stack.specs.declared.frame.Frame.{Frame}
use Rattle.core_semantics.specs.Evaluation.{Raises, caught}
use Rattle.core_stack.specs.inside.Frames.{hole_of}
use Rattle.core_stack.specs.Holes.{scope}
use Rattle.core_eval.specs.Filled.{filled}
use Rattle.core_eval.specs.inside.Steps.{GoesOn, work_in}
use Rattle.core_eval.proofs.Errors.{enters}
use Rattle.core_eval.proofs.leave.leave_raised.Goals as goal

pub returns-in-Catch : goal.returns-in-Catch
returns-in-Catch c =
    subst (λ (f : Frame). IfOk c.caught.result (λ next. GoesOn c.args.stack.now c.args.stack.now next (λ setting s. filled setting (hole_of f) (scope c.args.stack.now) (Raises c.args.class (meaning_of c.args.reason) s)) (work_in (hole_of f)))) (sym c.in-Catch.is)
    (enters c.caught.result c.args.stack.now (λ setting s. caught c.args.class (meaning_of c.args.reason) s) 3 c.caught.ensures.same c.caught.ensures.less (omega arith))
