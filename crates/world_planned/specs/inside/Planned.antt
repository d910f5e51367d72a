-- How what is planned of a step grows.
use Rattle.std.specs.Prelude.{◌≡◌, ◌++◌, List}
use Rattle.world_model.specs.Cells.{Cell}
use Rattle.world_model.specs.Changes.{Change}
use Rattle.world_records.specs.Cells.{cells_in}
use Rattle.world_records.specs.Changes.{all_changes_in}
use Rattle.world_planned.specs.declared.planned.Planned.{Planned}

-- these cells are read after others, and these changes come after others
pub record Adds (reads : List Cell) (changes : List Change) (old new : Planned) : Type 0 where
  pub more_reads : cells_in new.reads.items ≡ cells_in old.reads.items ++ reads
  pub more_changes : all_changes_in new.changes.items ≡ all_changes_in old.changes.items ++ changes
