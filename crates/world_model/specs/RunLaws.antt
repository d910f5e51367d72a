-- What holds of every history that really happens.
use Rattle.std.specs.Prelude.{◌<◌, ◌++◌, ◌∷◌, ◌≡◌, ◌↔◌, ℕ, [], false, None, Some, true}
use Rattle.world_model.specs.Calls.{TableArgument}
use Rattle.world_model.specs.Cells.{TableName}
use Rattle.world_model.specs.Events.{History}
use Rattle.world_model.specs.TableAccess.{Found}
use Rattle.world_model.specs.Names.{Name, Pid, Ref, IsAmong}
use Rattle.world_model.specs.Requests.{Program}
use Rattle.world_model.specs.Run.{IsRun}
use Rattle.world_model.specs.Tables as tables
use Rattle.world_model.specs.World.{table, alive, turns, linked, watched, watches_of, holder, name_of, found, contents, owner, tables_of}

-- ---- names do not repeat

-- the names of what a process creates next, and later, are those of nothing yet
pub record IsUnused (h : History) (p : Pid) (n : ℕ) : Type 0 where
  pub child : alive h (p ++ (n ∷ [])) ≡ false
  pub course : turns h (p ++ (n ∷ [])) ≡ 0
  pub table : table h (record { pid = p; number = n }) ≡ None
  pub watch : watched h (record { pid = p; number = n }) ≡ None

abbrev pub NamesAreNew : Type 0
NamesAreNew = (a : Program) (h : History) (p : Pid) (n : ℕ) → IsRun a h → turns h p < n → IsUnused h p n

-- ---- what is found

-- a name that means a table is that table's own, and it is found by it
abbrev pub NamesMeanTheirs : Type 0
NamesMeanTheirs = (a : Program) (h : History) (name : Name) (t : Ref) → IsRun a h → contents h (TableName name) ≡ Some t → (state : tables.Table) × (table h t ≡ Some state) × (state.is_named ≡ true) × (state.name ≡ name)

-- no two arguments find one table
abbrev pub FindsOne : Type 0
FindsOne = (a : Program) (h : History) (one other : TableArgument) (f g : Found) → IsRun a h → found h one ≡ Some f → found h other ≡ Some g → f.ref ≡ g.ref → one ≡ other

-- each table that is found has an owner, which lives
abbrev pub OwnersLive : Type 0
OwnersLive = (a : Program) (h : History) (argument : TableArgument) (f : Found) → IsRun a h → found h argument ≡ Some f → (owner h f.ref ≡ Some f.table.owner) × (alive h f.table.owner ≡ true)

-- ---- what is said of two, from the side of each

-- a process has exactly the name that it holds
abbrev pub HoldersHaveNames : Type 0
HoldersHaveNames = (a : Program) (h : History) (p : Pid) (name : Name) → IsRun a h → (name_of h p ≡ Some name) ↔ (holder h name ≡ Some p)

-- and exactly the tables that it owns
abbrev pub OwnersHaveTables : Type 0
OwnersHaveTables = (a : Program) (h : History) (p : Pid) (t : Ref) → IsRun a h → IsAmong t (tables_of h p) ↔ (owner h t ≡ Some p)

-- the watches of a process are exactly those that have it as their target
abbrev pub TargetsHaveWatches : Type 0
TargetsHaveWatches = (a : Program) (h : History) (p : Pid) (ref : Ref) → IsRun a h → IsAmong ref (watches_of h p) ↔ (watched h ref ≡ Some p)

-- links are mutual
abbrev pub LinksAreMutual : Type 0
LinksAreMutual = (h : History) (p q : Pid) → IsAmong q (linked h p) ↔ IsAmong p (linked h q)
