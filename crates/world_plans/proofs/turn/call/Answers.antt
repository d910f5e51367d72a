use Rattle.std.proofs.Common.{◌∙◌, sym, ap, subst}
use Rattle.world_model.specs.Calls.{call_of}
use Rattle.world_model.specs.Steps.{must_wait}
use Rattle.world_planned.specs.inside.PlannedCalls.{IsPlanned}
use Rattle.world_plans.specs.inside.Called.{deed_of_reply}
use Rattle.world_plans.proofs.Turning.{call_goes, call_waits}
use Rattle.world_plans.proofs.turn.call.Goals as goal

pub returns-then-must_wait : goal.returns-then-must_wait
returns-then-must_wait c = λ m v told names lives.
    let p = c.args.pid.now in
    let kind = c.args.kind in
    call_waits v p kind c.args.arguments.now.value c.in_ok-reply.reply c.args.planned.now c.serve.new.planned
    (sym (c.if-must_wait.ensures m v told ∙ ap (λ xs. must_wait v p (call_of kind xs)) c.deref-2.ensures))
    (subst (λ xs. IsPlanned v p (call_of kind xs) c.in_ok-reply.reply c.args.planned.now c.serve.new.planned) c.deref.ensures (c.in_ok-reply.ensures m v told names))

pub returns : goal.returns
returns c = λ m v told names lives.
    let p = c.args.pid.now in
    let kind = c.args.kind in
    call_goes v p kind c.args.arguments.now.value c.in_ok-reply.reply _ c.args.planned.now c.serve.new.planned
    (sym (c.if-must_wait.ensures m v told ∙ ap (λ xs. must_wait v p (call_of kind xs)) c.deref-2.ensures))
    (c.deed_of.ensures ∙ ap (λ xs. deed_of_reply kind xs c.in_ok-reply.reply) c.in_ok-arguments.ensures)
    (subst (λ xs. IsPlanned v p (call_of kind xs) c.in_ok-reply.reply c.args.planned.now c.serve.new.planned) c.deref.ensures (c.in_ok-reply.ensures m v told names))
