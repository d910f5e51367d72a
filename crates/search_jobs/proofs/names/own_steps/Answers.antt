use Rattle.std.proofs.Common.{◌∙◌, arith}
use Rattle.search_jobs.proofs.Lists.{copied_more}
use Rattle.search_jobs.proofs.names.own_steps.Goals as goal

pub loop-step-preserved : goal.loop-step-preserved
loop-step-preserved c =
    c.in_ok-push.ensures.items ∙ copied_more c.args.steps.now c.loop-step.own.items c.loop-step.step-index c.step-item.result c.in_ok-own_step.field-0 (omega (arith, c.loop-step-test.true)) c.step-item.is c.loop-step.invariant c.in_ok-own_step.ensures
