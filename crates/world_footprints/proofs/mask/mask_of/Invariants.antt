use Rattle.std.proofs.Common.{take}
use Rattle.world_records.specs.Cells.{cells_in}
use Rattle.world_footprints.specs.inside.Masks.{Covers}
use Rattle.world_footprints.proofs.mask.mask_of.Given as goal

-- the cells so far are covered
abbrev pub invariant-loop-cell : goal.invariant-loop-cell
invariant-loop-cell l = Covers l.mask (cells_in (take l.cell-index l.cells))
