use Rattle.std.proofs.Common.{◌∙◌, Some, ap, sym, is_some}
use Rattle.world_footprints.specs.declared.plan.Plan.{Plan}
use Rattle.search_agenda.proofs.Looking.{first_found, none_found, none_so_far}
use Rattle.search_agenda.proofs.agenda.Agenda.first_enabled.Goals as goal

pub loop-plan-preserved : goal.loop-plan-preserved
loop-plan-preserved c =
    none_so_far c.as_slice-plans.result.now c.loop-plan.plan-index c.plan-item.result c.loop-plan-test.true c.plan-item.is
    (ap (λ (q : Plan). is_some q.deed) (sym c.deref.ensures) ∙ sym c.is_some.ensures ∙ c.if-is_some.false) c.loop-plan.invariant

pub returns-then-is_some : goal.returns-then-is_some
returns-then-is_some c = λ a h is.
    let p = c.plan-item.result in
    ap (λ (q : Plan). Some q.step) c.deref-then-is_some.ensures
    ∙ first_found a h c.args.self.now c.as_slice-plans.result.now c.loop-plan.plan-index p c.as_slice-plans.ensures.value c.loop-plan-test.true c.plan-item.is
    (ap (λ (q : Plan). is_some q.deed) (sym c.deref.ensures) ∙ sym c.is_some.ensures ∙ c.if-is_some.true) c.loop-plan.invariant is

pub returns : goal.returns
returns c = λ a h is. none_found a h c.args.self.now c.as_slice-plans.result.now c.loop-plan.plan-index c.as_slice-plans.ensures.value c.loop-plan-test.false c.loop-plan.invariant is
