use Rattle.world_core.proofs.Deadlocks.{dead_shown, shown_dead}
use Rattle.world_core.proofs.laws.deadlocks_are_of_the_living.Goals as goal

pub returns : goal.returns
returns c = λ a h ps. (shown_dead a h ps, dead_shown a h ps)
