use Rattle.std.proofs.Common.{◌∙◌, ap, sym}
use Rattle.std.proofs.lemmas.List.{drop_all}
use Rattle.world_model.specs.Independence.{one_meets, some_meet}
use Rattle.world_records.specs.Cells.{cells_in}
use Rattle.world_footprints.specs.Footprints.{written_in}
use Rattle.world_footprints.proofs.Writing.{cell_first, found_true, passed_on}
use Rattle.world_footprints.proofs.meeting.writes_meet_some.Goals as goal

pub loop-cell-preserved : goal.loop-cell-preserved
loop-cell-preserved c =
    c.loop-cell.invariant ∙ cell_first (written_in c.args.writer.now) c.args.cells.now c.loop-cell.cell-index c.cell-item.result c.loop-cell-test.true c.cell-item.is
    ∙ passed_on _ _ (ap (one_meets (written_in c.args.writer.now)) (sym c.view_of.ensures) ∙ sym c.writes_meet.ensures ∙ c.if-writes_meet.false)

pub returns-then-writes_meet : goal.returns-then-writes_meet
returns-then-writes_meet c =
    sym (c.loop-cell.invariant ∙ cell_first (written_in c.args.writer.now) c.args.cells.now c.loop-cell.cell-index c.cell-item.result c.loop-cell-test.true c.cell-item.is
    ∙ found_true _ _ (ap (one_meets (written_in c.args.writer.now)) (sym c.view_of.ensures) ∙ sym c.writes_meet.ensures ∙ c.if-writes_meet.true))

pub returns : goal.returns
returns c = sym (c.loop-cell.invariant ∙ ap (λ xs. some_meet (written_in c.args.writer.now) (cells_in xs)) (drop_all c.loop-cell.cell-index _ c.loop-cell-test.false))
