use Rattle.std.proofs.Common.{sym, subst}
use Rattle.core_eval.specs.Requests.{told_by, answered_of}
use Rattle.core_eval.specs.inside.Steps.{Answers}
use Rattle.core_eval.specs.declared.request.Request.{Request}
use Rattle.core_eval.proofs.receiving.take.Goals as goal

pub returns-in-Call : goal.returns-in-Call
returns-in-Call c =
    subst (λ (r : Request). Answers c.args.stack.now c.args.stack.now (told_by r) (answered_of c.args.answer) c.take_reply.result) (sym c.in-Call.is)
    (c.take_reply.ensures c.in-Call.field-0 c.in-Call.field-1.value c.args.stack.now)
