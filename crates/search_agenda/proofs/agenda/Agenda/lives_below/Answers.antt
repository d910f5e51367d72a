use Rattle.std.proofs.Common.{◌∙◌, ap, not, sym, is_some}
use Rattle.std.specs.Prelude.{◌&&◌}
use Rattle.world_records.specs.Cells.{cells_in}
use Rattle.world_footprints.specs.Footprints.{written_in}
use Rattle.world_model.specs.Independence.{some_meet}
use Rattle.world_footprints.specs.declared.plan.Plan.{Plan}
use Rattle.search_agenda.proofs.Looking.{all_met, met_more, plan_at, stays_enabled}
use Rattle.search_agenda.proofs.agenda.Agenda.lives_below.Goals as goal

pub loop-other-init : goal.loop-other-init
loop-other-init c = tt

pub loop-other-preserved : goal.loop-other-preserved
loop-other-preserved c =
    let taken = c.args.taken.now in
    met_more taken c.as_slice-plans.result.now c.loop-other.other-index c.other-item.result c.loop-other-test.true c.other-item.is
    (ap (λ (q : Plan). is_some q.deed && not (some_meet (written_in taken) (cells_in q.planned.reads.items))) (sym c.deref.ensures) ∙ sym c.outlives.ensures ∙ c.if-outlives.false)
    c.loop-other.invariant

pub returns-then-outlives-clause-lives : goal.returns-then-outlives-clause-lives
returns-then-outlives-clause-lives c = λ yes a h e is of now none.
    let p = c.other-item.result.value in
    let taken = c.args.taken.now in
    let plans = c.as_slice-plans.result.now in
    let holds = plan_at a h c.args.self.now plans c.loop-other.other-index c.other-item.result c.as_slice-plans.ensures.value c.loop-other-test.true c.other-item.is is in
    let on = ap (λ (q : Plan). is_some q.deed && not (some_meet (written_in taken) (cells_in q.planned.reads.items))) (sym c.deref.ensures) ∙ sym c.outlives.ensures ∙ c.if-outlives.true in
    stays_enabled a h e taken p of holds on now none

pub returns-clause-met : goal.returns-clause-met
returns-clause-met c = λ no a h is of s there.
    all_met a h c.args.self.now c.args.taken.now c.as_slice-plans.result.now c.loop-other.other-index s c.as_slice-plans.ensures.value c.loop-other-test.false c.loop-other.invariant of is there
