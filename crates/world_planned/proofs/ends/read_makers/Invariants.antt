use Rattle.std.proofs.Common.{[], map}
use Rattle.world_model.specs.Cells as cells
use Rattle.world_model.specs.Names.{ref_of}
use Rattle.world_planned.specs.inside.Planned.{Adds}
use Rattle.world_planned.proofs.ends.read_makers.Given as goal

-- it is read of the makers of those before this one
abbrev pub invariant-loop-reference : goal.invariant-loop-reference
invariant-loop-reference l = Adds (map (λ ref. cells.Alive ref.pid) (map ref_of (map (λ x. x.now) l.yielded))) [] l.fn.planned l.planned
