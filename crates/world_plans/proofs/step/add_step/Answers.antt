use Rattle.std.proofs.Common.{◌≡◌, true, sym, subst}
use Rattle.world_model.specs.Asking.{program_of}
use Rattle.world_model.specs.Cells as cells
use Rattle.world_model.specs.Cells.{Contents}
use Rattle.world_footprints.specs.Plans.{actor_of}
use Rattle.world_plans.specs.inside.Turns.{IsPlannedStep}
use Rattle.world_plans.proofs.Turning.{if_ok}
use Rattle.world_plans.proofs.step.add_step.Goals as goal

pub returns-in-Deliver : goal.returns-in-Deliver
returns-in-Deliver c = if_ok c.add_delivery.result _ _ (λ deed plans m v told meant lives.
    subst (λ x. IsPlannedStep (program_of m) v x deed c.args.planned.now c.add_delivery.new.planned) (sym c.in-Deliver.is) (plans m v told (subst (λ x. v (cells.Alive (actor_of x)) ≡ true) c.in-Deliver.is lives))) c.add_delivery.ensures
