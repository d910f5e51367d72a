-- What a change of the rows of one table leaves as it was.
use Rattle.std.specs.Prelude.{◌≡◌, false}
use Rattle.world_model.specs.Cells.{Contents, Table, Row, Rows, TableName, Owned}
use Rattle.world_model.specs.Names.{Name, Pid, Ref, same_ref}
use Rattle.world_model.specs.Rows.{Key}

-- all cells of tables but the rows of this one contain what they did
pub record KeepsOthers (t : Ref) (v w : Contents) : Type 0 where
  pub tables : (u : Ref) → w (Table u) ≡ v (Table u)
  pub rows : (u : Ref) → same_ref t u ≡ false → w (Rows u) ≡ v (Rows u)
  pub each_row : (u : Ref) (key : Key) → same_ref t u ≡ false → w (Row u key) ≡ v (Row u key)
  pub names : (name : Name) → w (TableName name) ≡ v (TableName name)
  pub owned : (p : Pid) → w (Owned p) ≡ v (Owned p)
