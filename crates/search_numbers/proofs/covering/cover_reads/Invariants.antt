use Rattle.std.proofs.Common.{take}
use Rattle.world_records.specs.Cells.{cells_in}
use Rattle.search_numbers.specs.inside.Covered.{CoversMore, CoversPlaces}
use Rattle.search_numbers.proofs.covering.cover_reads.Given as goal

-- the places of the cells so far are covered, and all that was
abbrev pub invariant-loop-cell : goal.invariant-loop-cell
invariant-loop-cell l = CoversPlaces l.store l.columns.items (cells_in (take l.cell-index l.cells)) × CoversMore l.fn.store l.fn.columns.items l.store l.columns.items
