use Rattle.std.proofs.Common.{◌∙◌, sym}
use Rattle.search_samples.proofs.Chosen.{first_here, none_at_all, none_so_far}
use Rattle.search_samples.proofs.drawing.first_at_once.Goals as goal
use Rattle.tree_schedules.specs.Deliveries.{is_at_once}

pub loop-step-preserved : goal.loop-step-preserved
loop-step-preserved c =
    none_so_far (is_at_once c.args.world.now.history) c.args.steps.now c.loop-step.step-index c.step-item.result c.loop-step-test.true c.step-item.is (sym c.is_at_once.ensures ∙ c.if-is_at_once.false) c.loop-step.invariant

pub returns-then-is_at_once : goal.returns-then-is_at_once
returns-then-is_at_once c =
    first_here (is_at_once c.args.world.now.history) c.args.steps.now c.loop-step.step-index c.step-item.result c.loop-step-test.true c.step-item.is (sym c.is_at_once.ensures ∙ c.if-is_at_once.true) c.loop-step.invariant

pub returns : goal.returns
returns c = none_at_all (is_at_once c.args.world.now.history) c.args.steps.now c.loop-step.step-index c.loop-step-test.false c.loop-step.invariant
