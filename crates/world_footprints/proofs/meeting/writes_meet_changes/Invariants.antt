use Rattle.std.proofs.Common.{◌≡◌, drop, map}
use Rattle.world_model.specs.Changes.{cell_of}
use Rattle.world_model.specs.Independence.{some_meet}
use Rattle.world_records.specs.Changes.{all_changes_in}
use Rattle.world_footprints.specs.Footprints.{written_in}
use Rattle.world_footprints.proofs.meeting.writes_meet_changes.Given as goal

-- none of those before this one is met
abbrev pub invariant-loop-change : goal.invariant-loop-change
invariant-loop-change l = some_meet (written_in l.writer) (map cell_of (all_changes_in l.changes)) ≡ some_meet (written_in l.writer) (map cell_of (all_changes_in (drop l.change-index l.changes)))
