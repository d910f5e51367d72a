use Rattle.std.proofs.Common.{◌∙◌, ap, sym}
use Rattle.term_core.specs.StepOrder.{order_of_steps}
use Rattle.term_core.specs.inside.StepOrderLaws.{same_step}
use Rattle.search_agenda.specs.Plans.{Shared}
use Rattle.search_agenda.specs.inside.Planning.{step_in}
use Rattle.world_footprints.specs.declared.plan.Plan.{Plan}
use Rattle.search_agenda.proofs.Putting.{at_same}
use Rattle.search_agenda.proofs.above.place_from.Goals as goal

pub returns-in-Equal-clause-found : goal.returns-in-Equal-clause-found
returns-in-Equal-clause-found c = (
  c.loop-place-test.true,
  λ p is.
      ap (λ (q : Shared). q.value.step) (at_same c.args.plans.now c.loop-place.place p c.index-plans-place.result c.loop-place-test.true is c.index-plans-place.is)
      ∙ ap (λ (q : Plan). q.step) (sym c.deref.ensures) ∙ same_step _ _ (sym c.in-Equal.ensures),
)

pub returns-in-Greater-clause-passed : goal.returns-in-Greater-clause-passed
returns-in-Greater-clause-passed c = λ none within p is.
    ap (λ (q : Shared). order_of_steps q.value.step (step_in c.args.step)) (at_same c.args.plans.now c.loop-place.place p c.index-plans-place.result c.loop-place-test.true is c.index-plans-place.is)
    ∙ ap (λ (q : Plan). order_of_steps q.step (step_in c.args.step)) (sym c.deref.ensures) ∙ sym c.in-Greater.ensures
