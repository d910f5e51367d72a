use Rattle.std.proofs.Common.{◌∙◌, ap, map, sym}
use Rattle.std.proofs.lemmas.List.{drop_all}
use Rattle.world_model.specs.Changes.{cell_of}
use Rattle.world_model.specs.Independence.{some_meet}
use Rattle.world_records.specs.Changes.{all_changes_in}
use Rattle.world_footprints.specs.Footprints.{written_in}
use Rattle.world_footprints.proofs.Writing.{some_first, found_true, passed_on}
use Rattle.world_footprints.proofs.meeting.writes_meet_changes.Goals as goal

pub loop-change-preserved : goal.loop-change-preserved
loop-change-preserved c =
    c.loop-change.invariant ∙ some_first (written_in c.args.writer.now) c.args.changes.now c.loop-change.change-index c.change-item.result c.loop-change-test.true c.change-item.is
    ∙ passed_on _ _ (ap (some_meet (written_in c.args.writer.now)) (sym c.changed_cells.ensures) ∙ sym c.writes_meet_views.ensures ∙ c.if-writes_meet_views.false)

pub returns-then-writes_meet_views : goal.returns-then-writes_meet_views
returns-then-writes_meet_views c =
    sym (c.loop-change.invariant ∙ some_first (written_in c.args.writer.now) c.args.changes.now c.loop-change.change-index c.change-item.result c.loop-change-test.true c.change-item.is
    ∙ found_true _ _ (ap (some_meet (written_in c.args.writer.now)) (sym c.changed_cells.ensures) ∙ sym c.writes_meet_views.ensures ∙ c.if-writes_meet_views.true))

pub returns : goal.returns
returns c = sym (c.loop-change.invariant ∙ ap (λ xs. some_meet (written_in c.args.writer.now) (map cell_of (all_changes_in xs))) (drop_all c.loop-change.change-index _ c.loop-change-test.false))
