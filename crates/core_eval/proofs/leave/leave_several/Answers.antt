use Rattle.std.proofs.Common.{◌+◌, sym, subst, arith}
use Rattle.core_semantics.specs.Evaluation.{Yields}
use Rattle.core_stack.specs.inside.Frames.{hole_of}
use Rattle.core_stack.specs.Holes.{scope}
use Rattle.core_eval.specs.Filled.{filled}
use Rattle.core_eval.specs.inside.Steps.{work_in}
use Rattle.core_stack.specs.declared.frame.Frame.{Frame}
use Rattle.core_eval.proofs.Errors.{WantsOne, filled-miscounted, goes_on}
use Rattle.core_eval.proofs.leave.leave_several.Goals as goal

pub returns-in-Parts : goal.returns-in-Parts
returns-in-Parts c =
    let one : WantsOne (hole_of c.args.frame) = subst (λ (f : Frame). WantsOne (hole_of f)) (sym c.in-Parts.is) tt in
    goes_on _ _ (λ setting s. filled setting (hole_of c.args.frame) (scope c.args.stack.now) (Yields c.args.values s)) _ (2 + work_in (hole_of c.args.frame)) c.error.ensures.same c.error.ensures.less
    (λ setting s. filled-miscounted setting (hole_of c.args.frame) (scope c.args.stack.now) c.args.values s one c.requires) (omega arith)

pub returns-in-Tail : goal.returns-in-Tail
returns-in-Tail c =
    let one : WantsOne (hole_of c.args.frame) = subst (λ (f : Frame). WantsOne (hole_of f)) (sym c.in-Tail.is) tt in
    goes_on _ _ (λ setting s. filled setting (hole_of c.args.frame) (scope c.args.stack.now) (Yields c.args.values s)) _ (2 + work_in (hole_of c.args.frame)) c.error-in-Tail.ensures.same c.error-in-Tail.ensures.less
    (λ setting s. filled-miscounted setting (hole_of c.args.frame) (scope c.args.stack.now) c.args.values s one c.requires) (omega arith)

pub returns-in-Second : goal.returns-in-Second
returns-in-Second c =
    let one : WantsOne (hole_of c.args.frame) = subst (λ (f : Frame). WantsOne (hole_of f)) (sym c.in-Second.is) tt in
    goes_on _ _ (λ setting s. filled setting (hole_of c.args.frame) (scope c.args.stack.now) (Yields c.args.values s)) _ (2 + work_in (hole_of c.args.frame)) c.error-in-Second.ensures.same c.error-in-Second.ensures.less
    (λ setting s. filled-miscounted setting (hole_of c.args.frame) (scope c.args.stack.now) c.args.values s one c.requires) (omega arith)
