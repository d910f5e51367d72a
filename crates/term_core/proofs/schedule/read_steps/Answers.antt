use Rattle.std.proofs.Common.{sym, ◌∙◌}
use Rattle.term_core.proofs.ScheduleTexts.{reads_step, reads_last}
use Rattle.term_core.proofs.schedule.read_steps.Goals as goal

pub returns-in_default-split_first-clause-ok : goal.returns-in_default-split_first-clause-ok
returns-in_default-split_first-clause-ok c =
    let step = rw (c.in-Some.is, c.split_before.ensures.front) at c.in_ok-step.ensures in
    let none = rw c.split_before.ensures.rest at c.in_default-split_first.ensures.cases in
    rw c.in_ok-push.ensures.items (reads_last _ _ _ _ c.steps.invariant step.0 step.1 none)

pub steps-preserved : goal.steps-preserved
steps-preserved c =
    let step = rw (c.in-Some.is, c.split_before.ensures.front) at c.in_ok-step.ensures in
    let e = sym c.split_before.ensures.rest ∙ c.in-Some-split_first.ensures.cases.0 in
    rw c.in_ok-push.ensures.items (reads_step _ _ _ _ _ _ c.steps.invariant step.0 step.1 e)
