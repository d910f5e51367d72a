use Rattle.std.proofs.Common.{◌≡◌, drop, map}
use Rattle.world_model.specs.Changes.{cell_of}
use Rattle.world_model.specs.Independence.{one_meets}
use Rattle.world_records.specs.Changes.{all_changes_in}
use Rattle.world_footprints.specs.Views.{view_in}
use Rattle.world_footprints.proofs.meeting.changes_meet.Given as goal

-- none of those before this one is met
abbrev pub invariant-loop-change : goal.invariant-loop-change
invariant-loop-change l = one_meets (map cell_of (all_changes_in l.changes)) (view_in l.cell) ≡ one_meets (map cell_of (all_changes_in (drop l.change-index l.changes))) (view_in l.cell)
