use Rattle.std.proofs.Common.{◌≡◌, ◌++◌, ◌∙◌, map, ap}
use Rattle.world_model.specs.Asking.{program_of}
use Rattle.world_identities.specs.Identities.{identity_in}
use Rattle.world_footprints.specs.Deeds.{deed_in}
use Rattle.world_core.specs.inside.Showing.{told_by}
use Rattle.world_core.proofs.Showing.{plan_shows, plan_shows_none}
use Rattle.world_core.proofs.Worlds.{next_is, not_none, planned_next}
use Rattle.world_core.proofs.shows.shown_by_plan.Goals as goal

pub returns-in_default-clause-shown : goal.returns-in_default-clause-shown
returns-in_default-clause-shown c = λ m h e told is now. absurd (plan_shows_none m h e c.args.plan.now is now c.in_default.is)

pub returns-in_default-clause-none : goal.returns-in_default-clause-none
returns-in_default-clause-none c = λ m h is none. ap (map identity_in) c.new-found.ensures.items

pub returns-clause-shown : goal.returns-clause-shown
returns-clause-shown c = λ m h e told is now.
    c.in_ok-push_if_any.ensures
    ∙ ap (λ xs. map identity_in xs ++ told_by c.in_ok-by_plan.field-0) c.new-found.ensures.items
    ∙ c.in_ok-by_plan.ensures
    ∙ plan_shows m h e c.args.records.now c.args.plan.now c.in-Some.deed told is now c.in-Some.is

pub returns-clause-none : goal.returns-clause-none
returns-clause-none c = λ m h is none.
    let plan = c.args.plan.now in
    absurd (not_none _ _ (next_is m h plan.step (deed_in c.in-Some.deed) (planned_next m h plan c.in-Some.deed is c.in-Some.is)) none)
