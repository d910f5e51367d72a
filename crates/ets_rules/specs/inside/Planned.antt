-- How what is planned to change of tables grows.
use Rattle.std.specs.Prelude.{◌≡◌, ◌∷◌, [], ◌++◌, List, Option, Bool, true, false, if◌then◌else◌}
use Rattle.term_core.specs.Meaning.{Meaning}
use Rattle.ets_answers.specs.At.{found_at}
use Rattle.ets_store.specs.TableRows.{one_has_key}
use Rattle.ets_store.specs.declared.table.Table.{Table}
use Rattle.world_model.specs.Calls.{TableCall, InsertNew, UpdateCounter, UpdateElement, GiveAway}
use Rattle.world_model.specs.Cells.{Contents}
use Rattle.world_model.specs.Changes.{Change, RowWritten}
use Rattle.world_model.specs.Names.{Pid, Ref}
use Rattle.world_model.specs.Objects.{stores}
use Rattle.world_model.specs.Rows.{Key, Object, RowChange}
use Rattle.world_model.specs.TableAccess.{Found}
use Rattle.world_model.specs.TableLines.{Line, table_line}
use Rattle.ets_tables.specs.declared.transfers.Transfer.{Transfer}
use Rattle.ets_rules.specs.Changes.{all_changes_of_tables}
use Rattle.ets_rules.specs.Plans.{OfServedLine, planned_by}
use Rattle.ets_rules.specs.declared.change.TableChange.{TableChange}
use Rattle.ets_rules.specs.declared.found.FoundTable.{FoundTable}
use Rattle.ets_rules.specs.declared.changes.Changes.{Changes}

-- these changes come after others
pub record Adds (ks : List Change) (old new : Changes) : Type 0 where
  pub more : all_changes_of_tables new.list.items ≡ all_changes_of_tables old.list.items ++ ks

-- the row under a key is changed
abbrev pub AddsRow : Ref → Key → RowChange → Changes → Changes → Type 0
AddsRow t key change old new = Adds (RowWritten t key change ∷ []) old new

-- objects are put in, unless one of their keys is there
abbrev pub stores_unless : Bool → Found → List Object → List Change
stores_unless present f objects = if present then [] else stores f objects

-- these changes put the objects into a table, unless one of their keys is there
abbrev pub StoresNew : Table → Ref → List Object → List Change → Type 0
StoresNew table t objects changes = changes ≡ stores_unless (one_has_key table.rows.position objects table.rows.rows) (found_at t table) objects

-- this is so of the line of a call at a table that is found, whatever contents there are and whoever calls
abbrev pub OfLine : Found → TableCall → (Line → Type 0) → Type 0
OfLine f call IsSo = (v : Contents) (p : Pid) → IsSo (table_line v p f call)

-- a call that is served at a table that is found has this answer
abbrev pub HasAnswer : FoundTable → TableCall → Meaning → Type 0
HasAnswer f call answer = OfServedLine f call (λ l. answer ≡ l.answer)

-- and changes this
abbrev pub HasChanges : FoundTable → TableCall → List TableChange → Option Transfer → Type 0
HasChanges f call changes transfer = OfServedLine f call (λ l. planned_by f.table.now.owner changes transfer ≡ l.changes)

-- whether what a call changes follows from its arguments and the settings of its table, and it informs nobody
abbrev pub reads_no_row : TableCall → Bool
reads_no_row (InsertNew objects) = false
reads_no_row (UpdateCounter key increment default) = false
reads_no_row (UpdateElement key changes) = false
reads_no_row (GiveAway to gift) = false
reads_no_row call = true
