use Rattle.std.proofs.Common.{◌∙◌, ap, subst}
use Rattle.world_footprints.specs.Footprints.{IsPlan}
use Rattle.world_planned.proofs.Calling.{if_ok}
use Rattle.world_model.specs.Asking.{program_of}
use Rattle.world_model.specs.World.{contents}
use Rattle.world_core.specs.Seen.{Seen, program_in}
use Rattle.world_core.specs.Shared.{events_in}
use Rattle.world_core.proofs.Worlds.{if_some}
use Rattle.world_steps.proofs.Names.{names_mean}
use Rattle.world_core.proofs.world.World.plan.Goals as goal

pub returns-clause-plan : goal.returns-clause-plan
returns-clause-plan c =
    let m = c.self.inside.program.now in
    let h = events_in c.self.inside.events in
    let was = c.self.invariant (ap (λ (s : Seen). s.spent) c.self.view_is ∙ c.requires.lives) in
    if_ok c.plan_step.result _ _ (λ planned holds.
    if_some planned _ _ (λ plan is.
    subst (λ (s : Seen). IsPlan (program_in s) (contents s.history) plan) c.self.view_is (is m (contents h) was.agrees (names_mean (program_of m) h was.is_run)))
    holds) c.plan_step.ensures.plan
