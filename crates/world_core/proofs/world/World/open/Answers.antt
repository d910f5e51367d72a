use Rattle.world_core.proofs.Worlds.{opened}
use Rattle.world_core.proofs.world.World.open.Goals as goal

pub invariant_of-result : goal.invariant_of-result
invariant_of-result c = λ e. opened _ _ c.in_ok-open.ensures
