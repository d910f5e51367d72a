-- The changes of tables as values, in the words of the explored world, and what each needs.
use Rattle.std.specs.Prelude.{◌≡◌, List, [], ◌∷◌, ◌++◌, Option, Some, None, IsSome, map}
use Rattle.ets_calls.specs.Options.{option_in}
use Rattle.ets_store.specs.Tables.{heir_in}
use Rattle.ets_tables.specs.declared.transfers.Transfer.{Transfer}
use Rattle.term_core.specs.Term.{meaning_of}
use Rattle.world_model.specs.Cells as cells
use Rattle.world_model.specs.Cells.{Contents}
use Rattle.world_model.specs.Changes as changes
use Rattle.world_model.specs.Changes.{changed}
use Rattle.world_model.specs.Events.{Message}
use Rattle.world_model.specs.Names.{Pid, ref_of}
use Rattle.world_model.specs.Rows as rows
use Rattle.world_model.specs.Tables as tables
use Rattle.world_model.specs.Tables.{table_of}
use Rattle.ets_rules.specs.declared.change.RowChange.{RowChange}
use Rattle.ets_rules.specs.declared.change.RowChange.TheVariants.{Stores, Removes, Clears}
use Rattle.ets_rules.specs.declared.change.TableChange.{TableChange}
use Rattle.ets_rules.specs.declared.change.TableChange.TheVariants.{RowWritten, RowsCleared, TableSet, TableTouched, OwnerSet, HeirSet, TableRemoved, NameSet, NameCleared, OwnedAdded, OwnedRemoved, OwnedCleared}

-- what is done to the objects under a key
abbrev pub row_change_in : RowChange → rows.RowChange
row_change_in (Stores kind object) = rows.Stores kind object
row_change_in (Removes object) = rows.Removes object
row_change_in Clears = rows.Clears

-- the changes of the explored world that a change of tables means
abbrev pub changes_of_tables : TableChange → List changes.Change
changes_of_tables (RowWritten id key change) = changes.RowWritten (ref_of id) (meaning_of key) (row_change_in change) ∷ []
changes_of_tables (RowsCleared id) = changes.RowsCleared (ref_of id) ∷ []
changes_of_tables (TableSet id owner name options) = changes.TableSet (ref_of id) (table_of owner name (map option_in options.items)) ∷ []
changes_of_tables (TableTouched id) = changes.CellTouched (cells.Table (ref_of id)) ∷ []
changes_of_tables (OwnerSet id owner) = changes.OwnerSet (ref_of id) owner ∷ []
changes_of_tables (HeirSet id heir) = changes.HeirSet (ref_of id) (heir_in heir) ∷ []
changes_of_tables (TableRemoved id) = changes.TableRemoved (ref_of id) ∷ changes.RowsCleared (ref_of id) ∷ []
changes_of_tables (NameSet name id) = changes.TableNameSet name (ref_of id) ∷ []
changes_of_tables (NameCleared name) = changes.TableNameCleared name ∷ []
changes_of_tables (OwnedAdded p id) = changes.OwnedAdded p (ref_of id) ∷ []
changes_of_tables (OwnedRemoved p id) = changes.OwnedRemoved p (ref_of id) ∷ []
changes_of_tables (OwnedCleared p) = changes.OwnedCleared p ∷ []

-- those that several mean, one after the other
abbrev pub all_changes_of_tables : List TableChange → List changes.Change
all_changes_of_tables [] = []
all_changes_of_tables (c ∷ cs) = changes_of_tables c ++ all_changes_of_tables cs

-- the signal that a process puts with a message to a new owner, where there is one
abbrev pub sent_by : Pid → Option Transfer → List changes.Change
sent_by p None = []
sent_by p (Some transfer) = changes.SignalPut p transfer.to (Message (meaning_of transfer.message)) ∷ []

-- an object is put in with the kind of the table
abbrev pub IsOfKind : rows.RowChange → Option tables.Table → Type 0
IsOfKind (rows.Stores kind object) (Some table) = kind ≡ table.kind
IsOfKind change there = Unit {0}

-- what the cells need before a change, so that tables can hold what it leaves: rows are of a table that is there, and with
-- its kind; and a table is made where none is
abbrev pub CanHold : Contents → changes.Change → Type 0
CanHold v (changes.RowWritten t key change) = IsSome (v (cells.Table t)) × IsOfKind change (v (cells.Table t))
CanHold v (changes.TableSet t table) = v (cells.Table t) ≡ None
CanHold v k = Unit {0}

-- and before several, one after the other
abbrev pub CanApply : Contents → List changes.Change → Type 0
CanApply v [] = Unit {0}
CanApply v (k ∷ ks) = CanHold v k × CanApply (changed k v) ks
