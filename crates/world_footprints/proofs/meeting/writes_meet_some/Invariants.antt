use Rattle.std.proofs.Common.{◌≡◌, drop}
use Rattle.world_model.specs.Independence.{some_meet}
use Rattle.world_records.specs.Cells.{cells_in}
use Rattle.world_footprints.specs.Footprints.{written_in}
use Rattle.world_footprints.proofs.meeting.writes_meet_some.Given as goal

-- none of those before this one is met
abbrev pub invariant-loop-cell : goal.invariant-loop-cell
invariant-loop-cell l = some_meet (written_in l.writer) (cells_in l.cells) ≡ some_meet (written_in l.writer) (cells_in (drop l.cell-index l.cells))
