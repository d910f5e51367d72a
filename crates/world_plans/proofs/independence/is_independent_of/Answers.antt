use Rattle.std.proofs.Common.{◌≡◌, false, subst}
use Rattle.world_model.specs.Asking.{program_of}
use Rattle.world_model.specs.Cells as cells
use Rattle.world_footprints.specs.Plans.{actor_of}
use Rattle.world_plans.proofs.Apart.{dead_apart, none_now}
use Rattle.world_plans.proofs.independence.is_independent_of.Goals as goal

pub returns-in-None : goal.returns-in-None
returns-in-None c = λ m v told names is.
    dead_apart (program_of m) v c.args.one.now.step c.args.other.now (subst (λ s. v (cells.Alive (actor_of s)) ≡ false) c.in_ok-copy.ensures (none_now _ _ c.in-None.is c.in_ok-other.ensures.none m v told))
