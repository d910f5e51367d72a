-- The tables of a world, in the words of the explored world.
use Rattle.std.specs.FinMap.{empty}
use Rattle.std.specs.Prelude.{◌≡◌, ◌∷◌, [], List, Option, None}
use Rattle.world_model.specs.Cells as cells
use Rattle.world_model.specs.Cells.{Contents}
use Rattle.world_model.specs.Changes.{TableSet, after}
use Rattle.world_model.specs.Names.{Name, Pid, Ref}
use Rattle.world_model.specs.Rows.{Rows}
use Rattle.world_model.specs.Tables as tables
use Rattle.ets_store.specs.Tables.{settings_in}
use Rattle.ets_store.specs.declared.table.Table.{Table}
use Rattle.ets_tables.specs.Shelves.{AreShelved, AreSame, held_on, table_on, rows_on, meant_on, owned_on}
use Rattle.ets_tables.specs.declared.registry.Registry.{Registry}

-- the table that a reference finds, as it is held
abbrev pub held_at : Registry → Ref → Option Table
held_at registry t = held_on registry.shelves.value t

-- the table that a reference finds, without its rows
abbrev pub table_at : Registry → Ref → Option tables.Table
table_at registry t = table_on registry.shelves.value t

-- its rows, none where there is no table
abbrev pub rows_at : Registry → Ref → Rows
rows_at registry t = rows_on registry.shelves.value t

-- the table that a name means
abbrev pub meant_by : Registry → Name → Option Ref
meant_by registry name = meant_on registry.shelves.value name

-- the tables of a process, in the order of references
abbrev pub owned_by : Registry → Pid → List Ref
owned_by registry p = owned_on registry.shelves.value p

-- the tables are what the contents say: each table, its rows, the rows under each key, what each name means, and what each process has
abbrev pub AreTables : Registry → Contents → Type 0
AreTables registry v = AreShelved registry.shelves.value v

-- each table, its rows, what each name means and what each process has are as they were
abbrev pub IsUnchanged : Registry → Registry → Type 0
IsUnchanged old new = AreSame old.shelves.value new.shelves.value

-- a table without rows is added under a reference that finds none; no name means it yet, and nobody has it
abbrev pub IsTableAdded : Ref → Table → Registry → Registry → Type 0
IsTableAdded t table old new = (v : Contents) → v (cells.Table t) ≡ None → table.rows.rows ≡ empty → AreTables old v → AreTables new (after (TableSet t (settings_in table) ∷ []) v)
