-- What is on the shelves: tables under their references, references under names, and who has which.
use Rattle.std.specs.BTreeMap.{get}
use Rattle.std.specs.FinMap.{empty}
use Rattle.std.specs.Prelude.{◌≡◌, List, Option, None, Some, map, option_map, if◌then◌else◌}
use Rattle.term_core.specs.Order.{order_of_lists}
use Rattle.term_core.specs.StepOrder.{order_of_reference_ids}
use Rattle.world_model.specs.Cells as cells
use Rattle.world_model.specs.Cells.{Contents}
use Rattle.world_model.specs.Names.{Name, Pid, Ref, same_name, same_pid, same_ref, ref_of}
use Rattle.world_model.specs.Rows.{Rows, Key, under}
use Rattle.world_model.specs.Tables as tables
use Rattle.ets_store.specs.Tables.{settings_in}
use Rattle.ets_store.specs.declared.table.Table.{Table}
use Rattle.proc_groups.specs.Groups.{members_in}
use Rattle.ets_tables.specs.declared.name_map.NameMap.{NameMap}
use Rattle.ets_tables.specs.declared.shelves.Shelves.{Shelves}

-- the table that a reference finds, as it is held
abbrev pub held_on : Shelves → Ref → Option Table
held_on shelves t = option_map (λ entry. entry.value) (get order_of_reference_ids shelves.tables (t.pid, t.number))

-- the rows of a table, none where there is no table
abbrev pub rows_of : Option Table → Rows
rows_of None = empty
rows_of (Some table) = table.rows.rows

-- a table without its rows
abbrev pub table_on : Shelves → Ref → Option tables.Table
table_on shelves t = option_map settings_in (held_on shelves t)

-- its rows
abbrev pub rows_on : Shelves → Ref → Rows
rows_on shelves t = rows_of (held_on shelves t)

-- what a name means
abbrev pub named_in : NameMap → Name → Option Ref
named_in map name = option_map ref_of (get order_of_lists map.references name)

-- each name means the same
abbrev pub MeanTheSame : NameMap → NameMap → Type 0
MeanTheSame a b = (name : Name) → named_in b name ≡ named_in a name

-- the table that a name means
abbrev pub meant_on : Shelves → Name → Option Ref
meant_on shelves name = named_in shelves.names.value name

-- the tables of a process, in the order of references
abbrev pub owned_on : Shelves → Pid → List Ref
owned_on shelves p = map ref_of (members_in shelves.owned.value p)

-- the tables are what the contents say
pub record AreShelved (shelves : Shelves) (v : Contents) : Type 0 where
  pub tables : (t : Ref) → table_on shelves t ≡ v (cells.Table t)
  pub rows : (t : Ref) → rows_on shelves t ≡ v (cells.Rows t)
  pub each_row : (t : Ref) (key : Key) → under (rows_on shelves t) key ≡ v (cells.Row t key)
  pub names : (name : Name) → meant_on shelves name ≡ v (cells.TableName name)
  pub owned : (p : Pid) → owned_on shelves p ≡ v (cells.Owned p)

-- each reference finds the table that it found, with its rows; each name means, and each process has, what it did
pub record AreSame (old new : Shelves) : Type 0 where
  pub tables : (t : Ref) → table_on new t ≡ table_on old t
  pub rows : (t : Ref) → rows_on new t ≡ rows_on old t
  pub names : (name : Name) → meant_on new name ≡ meant_on old name
  pub owned : (p : Pid) → owned_on new p ≡ owned_on old p

-- one reference finds what it found changed, with changed rows; all else is as it was
pub record IsAltered (t : Ref) (change : Option tables.Table → Option tables.Table) (change_rows : Rows → Rows) (old new : Shelves) : Type 0 where
  pub tables : (u : Ref) → table_on new u ≡ (if same_ref t u then change (table_on old u) else table_on old u)
  pub rows : (u : Ref) → rows_on new u ≡ (if same_ref t u then change_rows (rows_on old u) else rows_on old u)
  pub names : (name : Name) → meant_on new name ≡ meant_on old name
  pub owned : (p : Pid) → owned_on new p ≡ owned_on old p

-- one name means this table, or nothing; all else is as it was
pub record IsMeant (name : Name) (t : Option Ref) (old new : Shelves) : Type 0 where
  pub tables : (u : Ref) → table_on new u ≡ table_on old u
  pub rows : (u : Ref) → rows_on new u ≡ rows_on old u
  pub names : (other : Name) → meant_on new other ≡ (if same_name name other then t else meant_on old other)
  pub owned : (p : Pid) → owned_on new p ≡ owned_on old p

-- the tables of one process change; all else is as it was
pub record IsOwned (p : Pid) (change : List Ref → List Ref) (old new : Shelves) : Type 0 where
  pub tables : (u : Ref) → table_on new u ≡ table_on old u
  pub rows : (u : Ref) → rows_on new u ≡ rows_on old u
  pub names : (name : Name) → meant_on new name ≡ meant_on old name
  pub owned : (q : Pid) → owned_on new q ≡ (if same_pid p q then change (owned_on old q) else owned_on old q)
