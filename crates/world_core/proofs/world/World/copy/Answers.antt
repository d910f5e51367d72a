use Rattle.world_core.proofs.Worlds.{copied}
use Rattle.world_core.specs.Shared.{events_in}
use Rattle.world_core.proofs.world.World.copy.Goals as goal

pub invariant_of-result : goal.invariant_of-result
invariant_of-result c = λ _.
    copied c.self.inside.program.now (events_in c.self.inside.events) (events_in c.in_ok-copy-2.field-0) c.self.inside.records c.in_ok-copy.field-0 c.in_ok-copy-2.ensures c.in_ok-copy.ensures.alike (c.self.invariant c.if-self.false)
