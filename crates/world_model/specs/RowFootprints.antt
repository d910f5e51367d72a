-- Rows as a call may touch them: none, some, or all.
use Rattle.std.specs.Prelude.{◌∷◌, List, [], map}
use Rattle.world_model.specs.Cells.{Row, Rows, Cell}
use Rattle.world_model.specs.Names.{Ref}
use Rattle.world_model.specs.Rows.{Key}

-- which rows: none, those of some keys, or all
pub data Touch : Type 0 where
  NoRow : Touch
  RowsOfKeys : (keys : List Key) → Touch
  EachRow : Touch

-- the cells of these rows
abbrev pub cells_of : Ref → Touch → List Cell
cells_of t NoRow = []
cells_of t (RowsOfKeys ks) = map (Row t) ks
cells_of t EachRow = Rows t ∷ []
