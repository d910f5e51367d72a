-- The tables of a world, in its cells.
use Rattle.std.specs.FinMap.{get}
use Rattle.std.specs.Prelude.{◌≡◌, List, [], ◌∷◌, Option, Some, None, IfSome, option_map}
use Rattle.term_core.specs.Meaning.{Meaning}
use Rattle.world_model.specs.Calls.{TableArgument, TableCall}
use Rattle.world_model.specs.Cells as cells
use Rattle.world_model.specs.Cells.{Contents, Row, Rows}
use Rattle.world_model.specs.Changes.{RowWritten, TableSet, after}
use Rattle.world_model.specs.ProcessLines.{CallLine}
use Rattle.world_model.specs.TableAccess.{Found, find}
use Rattle.world_model.specs.TableRules.{on_table_line, table_rule}
use Rattle.world_model.specs.Tables as settings
use Rattle.world_model.specs.Names.{Name, Pid, Ref, ref_of}
use Rattle.world_model.specs.Rows.{Key, RowChange, some_if}
use Rattle.ets_answers.specs.At.{HoldsRows, found_at}
use Rattle.ets_store.specs.declared.table.Table.{Table}
use Rattle.ets_tables.specs.Ends.{transfer_of}
use Rattle.ets_tables.specs.Tables as registry
use Rattle.ets_tables.specs.Tables.{AreTables}
use Rattle.ets_tables.specs.declared.transfers.Transfer.{Transfer}
use Rattle.ets_rules.specs.declared.found.FoundTable.{FoundTable}
use Rattle.ets_rules.specs.declared.tables.Tables.{Tables}

-- the table that a reference finds, as it is held; the table that a name means; and the tables of a process, in order
abbrev pub held_in : Tables → Ref → Option Table
held_in tables t = registry.held_at tables.registry t

abbrev pub meant_in : Tables → Name → Option Ref
meant_in tables name = registry.meant_by tables.registry name

abbrev pub owned_in : Tables → Pid → List Ref
owned_in tables p = registry.owned_by tables.registry p

-- the tables are what the contents say, and the rows of each table are those under its keys, as in every history
pub record Hold (tables : Tables) (v : Contents) : Type 0 where
  pub are : AreTables tables.registry v
  pub by_key : (t : Ref) (key : Key) → get (v (Rows t)) key ≡ some_if (v (Row t key))

-- all is as it was
abbrev pub IsUnchanged : Tables → Tables → Type 0
IsUnchanged old new = registry.IsUnchanged old.registry new.registry

-- a table that is found, as calls find it
abbrev pub found_of : FoundTable → Found
found_of f = found_at (ref_of f.id.now) f.table.now

-- the message that a call puts for another process, if it does
abbrev pub told_in : Option Transfer → List (Pid × Meaning)
told_in None = []
told_in (Some transfer) = transfer_of transfer ∷ []

-- this is what an argument finds, if anything, with the rows that the contents have of it
pub record IsFoundBy (v : Contents) (argument : TableArgument) (found : Option FoundTable) : Type 0 where
  pub finds : option_map found_of found ≡ find v argument
  pub has_rows : IfSome found (λ f. HoldsRows f.table.now (ref_of f.id.now) v)

-- ---- whatever contents the tables hold

-- this is so of the line of a call, whoever calls, where no rule refuses it
abbrev pub WhereNotRefused : Tables → TableArgument → TableCall → (Contents → CallLine → Type 0) → Type 0
WhereNotRefused tables argument call IsSo = (v : Contents) (p : Pid) → Hold tables v → table_rule v p argument call ≡ None → IsSo v (on_table_line v p argument call)

-- a table without rows is added under a reference that finds none; no name means it yet, and nobody has it
abbrev pub AddsTable : Ref → settings.Table → Tables → Tables → Type 0
AddsTable t table old new = (v : Contents) → v (cells.Table t) ≡ None → Hold old v → Hold new (after (TableSet t table ∷ []) v)

-- the row under a key is changed in the table of a reference, where there is one, as its settings say
abbrev pub ChangesRow : Ref → Key → (settings.Table → RowChange) → Tables → Tables → Type 0
ChangesRow t key change old new = (v : Contents) (table : settings.Table) → v (cells.Table t) ≡ Some table → Hold old v → Hold new (after (RowWritten t key (change table) ∷ []) v)
