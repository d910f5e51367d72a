use Rattle.std.proofs.Common.{[], map}
use Rattle.world_model.specs.Cells as cells
use Rattle.world_planned.specs.inside.Planned.{Adds}
use Rattle.world_planned.proofs.ends.read_partners.Given as goal

-- it is read of those before this one
abbrev pub invariant-loop-partner : goal.invariant-loop-partner
invariant-loop-partner l = Adds (map cells.Alive (map (λ x. x.now) l.yielded)) [] l.fn.planned l.planned
