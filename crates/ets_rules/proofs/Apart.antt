-- Changes that leave the tables as they were.
use Rattle.std.proofs.Common.{sym, ◌∙◌}
use Rattle.world_model.specs.Cells as cells
use Rattle.world_model.specs.Cells.{Contents}
use Rattle.world_model.specs.Changes.{SignalPut, CellTouched, changed}
use Rattle.world_model.specs.Events.{Signal}
use Rattle.world_model.specs.Names.{Pid, Ref, same_ref}
use Rattle.proc_groups.proofs.Grouping.{same_either}
use Rattle.ets_tables.specs.Tables.{AreTables}
use Rattle.ets_tables.specs.declared.registry.Registry.{Registry}

-- a signal that is put is none of the tables
pub put_apart : (registry : Registry) (v : Contents) (s r : Pid) (signal : Signal) → AreTables registry v → AreTables registry (changed (SignalPut s r signal) v)
put_apart registry v s r signal are = record { tables = are.tables; rows = are.rows; each_row = are.each_row; names = are.names; owned = are.owned }

-- a table that is only touched is what it was
pub touch_apart : (registry : Registry) (v : Contents) (t : Ref) → AreTables registry v → AreTables registry (changed (CellTouched (cells.Table t)) v)
touch_apart registry v t are = record { tables = λ u. are.tables u ∙ sym (same_either (same_ref t u) (v (cells.Table u))); rows = are.rows; each_row = are.each_row; names = are.names; owned = are.owned }
