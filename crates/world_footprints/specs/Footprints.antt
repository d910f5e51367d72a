-- The plan of a step as a value: what it reads, and all that it changes.
use Rattle.std.specs.Prelude.{◌≡◌, List, option_map}
use Rattle.world_model.specs.Cells.{Cell, Contents}
use Rattle.world_model.specs.Independence.{Footprint}
use Rattle.world_model.specs.Requests.{Program}
use Rattle.world_model.specs.Steps.{next_deed, reads}
use Rattle.world_records.specs.Cells.{cells_in}
use Rattle.world_records.specs.Changes.{all_changes_in}
use Rattle.world_footprints.specs.Deeds.{deed_in}
use Rattle.world_footprints.specs.Plans.{others_if, written_by}
use Rattle.world_footprints.specs.declared.plan.Plan.{Plan}

-- the cells of all that it changes
abbrev pub written_in : Plan → List Cell
written_in p = written_by p.step (option_map deed_in p.deed) (all_changes_in p.planned.changes.items)

-- the cells that it reads, and those of all that it changes
abbrev pub footprint_in : Plan → Footprint
footprint_in p = record { reads = cells_in p.planned.reads.items; writes = written_in p }

-- the plan of a step
pub record IsPlan (a : Program) (v : Contents) (p : Plan) : Type 0 where
  pub deed : option_map deed_in p.deed ≡ next_deed a v p.step
  pub reads : cells_in p.planned.reads.items ≡ reads a v p.step
  pub changes : all_changes_in p.planned.changes.items ≡ others_if v p.step (next_deed a v p.step)
