-- The end of a process (Erlang reference manual, "Processes": "Process Termination"; ets manual, `new/2`: heir), with the cells that it reads.
use Rattle.std.specs.Prelude.{List, [], ◌∷◌, ◌++◌, Option, Some, None, if◌then◌else◌, map}
use Rattle.term_core.specs.Meaning.{Meaning}
use Rattle.world_model.specs.Cells.{Table, Cell, Alive, Links, Watchers, NameOf, Owned, Contents}
use Rattle.world_model.specs.Changes.{Change, MachineHalted, AliveCleared, SignalPut, RowsCleared, TableRemoved, TableNameCleared, OwnerSet, OwnedAdded, OwnedCleared, HolderCleared, NameCleared, changed}
use Rattle.world_model.specs.Events.{Message, LinkExit, Down}
use Rattle.world_model.specs.Names.{Name, Pid, Ref}
use Rattle.world_model.specs.Signals.{transfer_message, put_if}
use Rattle.world_model.specs.Tables as tables
use Rattle.world_model.specs.Tables.{Heir, handle_of}

-- ---- tables

-- the heir of a table, where it lives; a process that ends no longer lives
abbrev pub living_heir : Contents → Heir → Heir
living_heir v None = None
living_heir v (Some heir) = if v (Alive heir.0) then Some heir else None

-- the name of a table that goes means nothing then
abbrev pub name_freed : tables.Table → List Change
name_freed table = if table.is_named then TableNameCleared table.name ∷ [] else []

-- a table is destroyed, with all its rows, or goes to its heir, who is informed
abbrev pub passed : Pid → Ref → tables.Table → Heir → List Change
passed p t table None = TableRemoved t ∷ RowsCleared t ∷ name_freed table
passed p t table (Some heir) = OwnerSet t heir.0 ∷ OwnedAdded heir.0 t ∷ SignalPut p heir.0 (Message (transfer_message (handle_of t table) p heir.1)) ∷ []

-- a table that is gone stays gone
abbrev pub table_passes : Contents → Pid → Ref → Option tables.Table → List Change
table_passes v p t None = TableRemoved t ∷ RowsCleared t ∷ []
table_passes v p t (Some table) = passed p t table (living_heir v table.heir)

abbrev pub tables_pass : Contents → Pid → List Ref → List Change
tables_pass v p [] = []
tables_pass v p (t ∷ ts) = table_passes v p t (v (Table t)) ++ tables_pass v p ts

-- ---- partners, watchers, the name

abbrev pub partners_told : Contents → Pid → Meaning → List Pid → List Change
partners_told v p reason [] = []
partners_told v p reason (q ∷ qs) = put_if (v (Alive q)) p q (LinkExit reason) ++ partners_told v p reason qs

abbrev pub watchers_told : Contents → Pid → Meaning → List Ref → List Change
watchers_told v p reason [] = []
watchers_told v p reason (ref ∷ refs) = put_if (v (Alive ref.pid)) p ref.pid (Down ref reason) ++ watchers_told v p reason refs

abbrev pub name_left : Pid → Option Name → List Change
name_left p None = NameCleared p ∷ []
name_left p (Some name) = HolderCleared name ∷ NameCleared p ∷ []

-- ---- an end

-- what a process leaves to others once it is dead: first its tables in the order of their creation, then its partners in the order of pids, then its watchers in the order of references, then its name
abbrev pub left_by : Contents → Pid → Meaning → List Change
left_by v p reason = tables_pass v p (v (Owned p)) ++ (OwnedCleared p ∷ (partners_told v p reason (v (Links p)) ++ (watchers_told v p reason (v (Watchers p)) ++ name_left p (v (NameOf p)))))

-- it halts and dies, and then leaves what it has
abbrev pub ends : Contents → Pid → Meaning → List Change
ends v p reason = MachineHalted p reason ∷ AliveCleared p ∷ left_by (changed (AliveCleared p) v) p reason

-- ---- what an end reads

abbrev pub alive_if : Option Pid → List Cell
alive_if None = []
alive_if (Some q) = Alive q ∷ []

abbrev pub heir_pid : Heir → Option Pid
heir_pid None = None
heir_pid (Some heir) = Some heir.0

abbrev pub heir_read : Option tables.Table → List Cell
heir_read None = []
heir_read (Some table) = alive_if (heir_pid table.heir)

abbrev pub reads_of_tables : Contents → List Ref → List Cell
reads_of_tables v [] = []
reads_of_tables v (t ∷ ts) = Table t ∷ (heir_read (v (Table t)) ++ reads_of_tables v ts)

abbrev pub reads_of_end : Contents → Pid → List Cell
reads_of_end v p = Owned p ∷ Links p ∷ Watchers p ∷ NameOf p ∷ (reads_of_tables v (v (Owned p)) ++ (map Alive (v (Links p)) ++ map (λ ref. Alive ref.pid) (v (Watchers p))))
