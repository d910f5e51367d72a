-- What a table that was lent leaves is what the contents have that differ in its rows alone.
use Rattle.std.specs.Prelude.{◌≡◌, Some, if◌then◌else◌}
use Rattle.world_model.specs.Cells as cells
use Rattle.world_model.specs.Cells.{Contents}
use Rattle.world_model.specs.Names.{Name, Pid, Ref, same_ref}
use Rattle.world_model.specs.Rows.{Rows, Key, under}
use Rattle.ets_store.specs.Tables.{settings_in}
use Rattle.ets_store.specs.declared.table.Table.{Table}
use Rattle.ets_tables.specs.Lending.{IsWritten}
use Rattle.ets_tables.specs.Tables.{AreTables, table_at}
use Rattle.ets_tables.specs.declared.registry.Registry.{Registry}

-- of tables, names and owners only the rows of one table differ, and it has these
pub record DiffersInRows (t : Ref) (rows : Rows) (v w : Contents) : Type 0 where
  pub tables : (u : Ref) → w (cells.Table u) ≡ v (cells.Table u)
  pub rows_there : (u : Ref) → w (cells.Rows u) ≡ (if same_ref t u then rows else v (cells.Rows u))
  pub each_row : (u : Ref) (key : Key) → w (cells.Row u key) ≡ (if same_ref t u then under rows key else v (cells.Row u key))
  pub names : (name : Name) → w (cells.TableName name) ≡ v (cells.TableName name)
  pub owned : (p : Pid) → w (cells.Owned p) ≡ v (cells.Owned p)

abbrev pub AreWritten : Type 0
AreWritten = (old new : Registry) (t : Ref) (table : Table) (v w : Contents) → IsWritten t table old new → Some (settings_in table) ≡ table_at old t → AreTables old v → DiffersInRows t table.rows.rows v w → AreTables new w
