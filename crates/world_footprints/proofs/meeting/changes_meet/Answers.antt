use Rattle.std.proofs.Common.{◌∙◌, ap, map, sym}
use Rattle.std.proofs.lemmas.List.{drop_all}
use Rattle.world_model.specs.Changes.{cell_of}
use Rattle.world_model.specs.Independence.{one_meets}
use Rattle.world_records.specs.Changes.{all_changes_in}
use Rattle.world_footprints.specs.Views.{view_in}
use Rattle.world_footprints.proofs.Writing.{one_first, found_true, passed_on}
use Rattle.world_footprints.proofs.meeting.changes_meet.Goals as goal

pub loop-change-preserved : goal.loop-change-preserved
loop-change-preserved c =
    c.loop-change.invariant ∙ one_first c.args.changes.now c.loop-change.change-index c.change-item.result (view_in c.args.cell) c.loop-change-test.true c.change-item.is
    ∙ passed_on _ _ (sym c.change_meets.ensures ∙ c.if-change_meets.false)

pub returns-then-change_meets : goal.returns-then-change_meets
returns-then-change_meets c =
    sym (c.loop-change.invariant ∙ one_first c.args.changes.now c.loop-change.change-index c.change-item.result (view_in c.args.cell) c.loop-change-test.true c.change-item.is
    ∙ found_true _ _ (sym c.change_meets.ensures ∙ c.if-change_meets.true))

pub returns : goal.returns
returns c = sym (c.loop-change.invariant ∙ ap (λ xs. one_meets (map cell_of (all_changes_in xs)) (view_in c.args.cell)) (drop_all c.loop-change.change-index _ c.loop-change-test.false))
