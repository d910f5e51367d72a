use Rattle.std.proofs.Common.{map, take}
use Rattle.world_model.specs.Changes.{cell_of}
use Rattle.world_records.specs.Changes.{all_changes_in}
use Rattle.search_numbers.specs.inside.Covered.{CoversMore, CoversViews}
use Rattle.search_numbers.proofs.covering.cover_changes.Given as goal

-- the cells of the changes so far are covered, and all that was
abbrev pub invariant-loop-change : goal.invariant-loop-change
invariant-loop-change l = CoversViews l.store l.columns.items (map cell_of (all_changes_in (take l.change-index l.changes))) × CoversMore l.fn.store l.fn.columns.items l.store l.columns.items
