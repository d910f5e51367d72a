-- What calls and ends are planned to change of tables, and to send.
use Rattle.std.specs.Prelude.{◌≡◌, ◌++◌, Bool, List, Option, Some, None}
use Rattle.ets_answers.specs.At.{HoldsRows, WhereServed}
use Rattle.ets_rules.specs.Changes.{all_changes_of_tables, sent_by}
use Rattle.ets_rules.specs.Tables.{found_of}
use Rattle.ets_rules.specs.declared.change.TableChange.{TableChange}
use Rattle.ets_rules.specs.declared.found.FoundTable.{FoundTable}
use Rattle.ets_tables.specs.declared.transfers.Transfer.{Transfer}
use Rattle.world_model.specs.Calls.{TableCall}
use Rattle.world_model.specs.Cells.{Alive, Contents}
use Rattle.world_model.specs.Changes.{Change}
use Rattle.world_model.specs.Ends.{table_passes}
use Rattle.world_model.specs.Names.{Pid, Ref, ref_of}
use Rattle.world_model.specs.TableLines.{Line}
use Rattle.world_model.specs.Tables as tables
use Rattle.world_model.specs.Tables.{Heir}

-- these changes of tables, and then the message
abbrev pub planned_by : Pid → List TableChange → Option Transfer → List Change
planned_by p changes transfer = all_changes_of_tables changes ++ sent_by p transfer

-- this is so of the line of a call at a table that is found, where contents have its rows, and the call is served
abbrev pub OfServedLine : FoundTable → TableCall → (Line → Type 0) → Type 0
OfServedLine f call IsSo = (v : Contents) (p : Pid) → HoldsRows f.table.now (ref_of f.id.now) v → WhereServed v p (found_of f) call IsSo

-- it says of an heir, if there is one, whether it lives
abbrev pub SaysOfHeir : Bool → Contents → Heir → Type 0
SaysOfHeir lives v None = Unit {0}
SaysOfHeir lives v (Some heir) = lives ≡ v (Alive heir.0)

-- and so of the heir of a table, if there is one
abbrev pub SaysOfHeirOf : Bool → Contents → Option tables.Table → Type 0
SaysOfHeirOf lives v None = Unit {0}
SaysOfHeirOf lives v (Some table) = SaysOfHeir lives v table.heir

-- these changes and this message are what becomes of a table, if there is one, when the process that has it ends
abbrev pub PassesOn : Bool → Pid → Ref → Option tables.Table → List TableChange → Option Transfer → Type 0
PassesOn heir_lives p t table changes transfer = (v : Contents) → SaysOfHeirOf heir_lives v table → planned_by p changes transfer ≡ table_passes v p t table
