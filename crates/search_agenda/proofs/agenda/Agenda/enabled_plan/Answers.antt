use Rattle.std.proofs.Common.{◌∙◌, ◌+◌, ◌∷◌, ap, sym, drop}
use Rattle.std.proofs.lemmas.List.{drop_all, drop_more}
use Rattle.tree_coverage.specs.Explored.{same_step}
use Rattle.tree_sleep_sets.specs.Search.{is_among}
use Rattle.search_agenda.specs.Plans.{Shared, enabled_in}
use Rattle.world_footprints.specs.declared.plan.Plan.{Plan}
use Rattle.search_agenda.proofs.Looking.{is_of, not_enabled, skipped}
use Rattle.search_agenda.proofs.agenda.Agenda.enabled_plan.Goals as goal

pub loop-plan-preserved : goal.loop-plan-preserved
loop-plan-preserved c =
    let s = c.args.step.now in
    let plans = c.as_slice-plans.result.now in
    let i = c.loop-plan.plan-index in
    c.loop-plan.invariant
    ∙ ap (λ xs. is_among same_step (enabled_in xs) s) (drop_more plans i c.plan-item.result c.loop-plan-test.true ∙ ap (λ (p : Shared). p ∷ drop (i + 1) plans) (sym c.plan-item.is))
    ∙ skipped (drop (i + 1) plans) c.plan-item.result s (ap (λ (p : Plan). is_of p s) (sym c.deref.ensures) ∙ sym c.is_enabled_at.ensures.value ∙ c.if-is_enabled_at.false)

pub returns-clause-none : goal.returns-clause-none
returns-clause-none c = λ no a h is.
    let s = c.args.step.now in
    let plans = c.as_slice-plans.result.now in
    not_enabled a h c.args.self.now s
    (ap (λ xs. is_among same_step (enabled_in xs) s) (sym c.as_slice-plans.ensures.value) ∙ c.loop-plan.invariant ∙ ap (λ xs. is_among same_step (enabled_in xs) s) (drop_all c.loop-plan.plan-index plans c.loop-plan-test.false)) is
