-- What the end of a process meets, and what is planned of it.
use Rattle.std.specs.Prelude.{◌≡◌, ◌∷◌, ◌++◌, [], Bool, false, List, Option, Some, None, map, option_map}
use Rattle.term_core.specs.Meaning.{Meaning}
use Rattle.ets_rules.specs.Tables.{held_in, owned_in}
use Rattle.ets_store.specs.Tables.{settings_in}
use Rattle.proc_links.specs.Links.{AreLinks}
use Rattle.proc_links.specs.Names.{AreBorne}
use Rattle.proc_links.specs.Watchers.{AreWatchers}
use Rattle.proc_links.specs.declared.links.Links.{Links}
use Rattle.proc_machines.specs.Processes.{lives_in}
use Rattle.world_model.specs.Cells as cells
use Rattle.world_model.specs.Cells.{AreAlive, Contents}
use Rattle.world_model.specs.Changes.{AliveCleared, Change, changed}
use Rattle.world_model.specs.Ends.{heir_pid, heir_read, left_by, partners_told, reads_of_tables, table_passes, tables_pass, watchers_told}
use Rattle.world_model.specs.Names.{Pid, Ref}
use Rattle.world_model.specs.Tables as settings
use Rattle.world_records.specs.Records.{names_of, processes_of, tables_of, watchers_of}
use Rattle.world_records.specs.declared.records.Records.{Records}
use Rattle.world_planned.specs.inside.Planned.{Adds}
use Rattle.world_planned.specs.declared.planned.Planned.{Planned}

-- the records say it, with these links
pub record SeesEnd (records : Records) (links : Links) (w : Contents) : Type 0 where
  pub alive : (q : Pid) → lives_in (processes_of records) q ≡ w (cells.Alive q)
  pub links_are : AreLinks links w
  pub watchers_are : AreWatchers (watchers_of records) w
  pub borne_are : AreBorne (names_of records) w
  pub owned : (p : Pid) → owned_in (tables_of records) p ≡ w (cells.Owned p)
  pub tables : (t : Ref) → option_map settings_in (held_in (tables_of records) t) ≡ w (cells.Table t)

-- this is so of all contents that the records agree with, with whatever links
abbrev pub AtEnd : Records → (Contents → Type 0) → Type 0
AtEnd records IsSo = (links : Links) (w : Contents) → SeesEnd records links w → IsSo w

-- this is so of all contents in which those live that live by the records
abbrev pub WhereAlive : Records → (Contents → Type 0) → Type 0
WhereAlive records IsSo = (w : Contents) → AreAlive (lives_in (processes_of records)) w → IsSo w

-- the heir of a table, where one is there and has an heir
abbrev pub heir_of_table : Option settings.Table → Option Pid
heir_of_table None = None
heir_of_table (Some table) = heir_pid table.heir

-- whether there is such a process, and it lives
abbrev pub lives_if : Contents → Option Pid → Bool
lives_if w None = false
lives_if w (Some q) = w (cells.Alive q)

-- ---- what is planned at these contents, in which the process that ends lives

-- whether partners and watchers live is read, and those that do get their signals
abbrev pub PlansTold : Contents → Pid → Meaning → Planned → Planned → Type 0
PlansTold w p reason old new =
    Adds (map cells.Alive (w (cells.Links p)) ++ map (λ ref. cells.Alive ref.pid) (w (cells.Watchers p)))
    (partners_told (changed (AliveCleared p) w) p reason (w (cells.Links p)) ++ watchers_told (changed (AliveCleared p) w) p reason (w (cells.Watchers p))) old new

-- the table of a reference is read, with whether its heir lives, and goes to that, or goes
abbrev pub PlansTable : Contents → Pid → Ref → Planned → Planned → Type 0
PlansTable w p t old new = Adds (cells.Table t ∷ heir_read (w (cells.Table t))) (table_passes (changed (AliveCleared p) w) p t (w (cells.Table t))) old new

-- and each of these tables
abbrev pub PlansTables : Contents → Pid → List Ref → Planned → Planned → Type 0
PlansTables w p ts old new = Adds (reads_of_tables w ts) (tables_pass (changed (AliveCleared p) w) p ts) old new

-- what a process leaves to others once it is dead
abbrev pub left_at_end : Contents → Pid → Meaning → List Change
left_at_end w p reason = left_by (changed (AliveCleared p) w) p reason
