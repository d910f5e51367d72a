-- What each event leaves of a table: its existence, its owner, its heir and its settings.
use Rattle.std.specs.List.{list_any}
use Rattle.std.specs.Prelude.{if◌then◌else◌, ◌∷◌, ◌≡◌, List, Option, [], option_map, None, Some, Bool}
use Rattle.term_core.specs.Meaning.{Meaning}
use Rattle.term_core.specs.declared.step.Step.TheVariants.{Turn}
use Rattle.core_calls.specs.declared.call.CallKind.{CallKind}
use Rattle.world_model.specs.Calls.{TableCall, DeleteTable, GiveAway, SetOptions, TableArgument, call_of, OnTable, New}
use Rattle.world_model.specs.Cells.{Owned}
use Rattle.world_model.specs.Changes.{changed, AliveCleared}
use Rattle.world_model.specs.Ends.{living_heir}
use Rattle.world_model.specs.Events.{event, History, Served, Deed, Ended, RanAway, EndedItself}
use Rattle.world_model.specs.TableAccess.{Found}
use Rattle.world_model.specs.Names.{Pid, Name, Ref, same_ref}
use Rattle.world_model.specs.ProcessLines.{next_ref}
use Rattle.world_model.specs.Rows.{Object, Key}
use Rattle.world_model.specs.Tables as tables
use Rattle.world_model.specs.Tables.{Heir, with_heir, owned_by, TableOption, table_of}
use Rattle.world_model.specs.World.{table, heir, found, rows, contents}

-- ---- a served call: `delete/1` destroys, `give_away/3` makes its target the owner, `setopts/2` sets the heir, the last of its list, and no other call changes the table

abbrev pub heirs_left : List Heir → Option tables.Table → Option tables.Table
heirs_left [] there = there
heirs_left (heir ∷ heirs) there = heirs_left heirs (option_map (with_heir heir) there)

abbrev pub table_left : TableCall → Option tables.Table → Option tables.Table
table_left DeleteTable there = None
table_left (GiveAway (Some to) gift) there = option_map (owned_by to) there
table_left (SetOptions (Some heirs)) there = heirs_left heirs there
table_left call there = there

abbrev pub LeavesTable : Type 0
LeavesTable = (h : History) (p : Pid) (kind : CallKind) (arguments : List Meaning) (argument : TableArgument) (call : TableCall) (answer : Meaning) (f : Found) → call_of kind arguments ≡ OnTable argument call → found h argument ≡ Some f → table (event (Turn p) (Served kind arguments answer) ∷ h) f.ref ≡ table_left call (table h f.ref)

-- a served `new/2` makes its table, and its caller is the owner
abbrev pub MakesTable : Type 0
MakesTable = (h : History) (p : Pid) (kind : CallKind) (arguments : List Meaning) (name : Name) (os : List TableOption) (answer : Meaning) → call_of kind arguments ≡ New (Some name) (Some os) → table (event (Turn p) (Served kind arguments answer) ∷ h) (next_ref (contents h) p) ≡ Some (table_of p name os)

-- ---- an end: each table of the process goes to its heir, where that lives and is another, or is destroyed

abbrev pub table_passed : Heir → Option tables.Table → Option tables.Table
table_passed None there = None
table_passed (Some heir) there = option_map (owned_by heir.0) there

-- its rows go with it, or stay
abbrev pub row_passed : Heir → List Object → List Object
row_passed None there = []
row_passed (Some heir) there = there

abbrev pub heir_named : Option tables.Table → Heir
heir_named None = None
heir_named (Some table) = table.heir

-- the heir that a table goes to when this process ends: one that lives, and is another
abbrev pub next_owner : History → Pid → Ref → Heir
next_owner h p t = living_heir (changed (AliveCleared p) (contents h)) (heir_named (table h t))

-- whether a process has the table
abbrev pub has_table : History → Pid → Ref → Bool
has_table h p t = list_any (same_ref t) (contents h (Owned p))

-- the events that end a process by its own turn
abbrev pub IsEnd : Deed → Type 0
IsEnd (Ended reason) = Unit {0}
IsEnd RanAway = Unit {0}
IsEnd (EndedItself kind arguments reason) = Unit {0}
IsEnd deed = ⊥

abbrev pub PassesTables : Type 0
PassesTables = (h : History) (p : Pid) (deed : Deed) (t : Ref) → IsEnd deed → table (event (Turn p) deed ∷ h) t ≡ (if has_table h p t then table_passed (next_owner h p t) (table h t) else table h t)

abbrev pub PassesRows : Type 0
PassesRows = (h : History) (p : Pid) (deed : Deed) (t : Ref) (key : Key) → IsEnd deed → rows (event (Turn p) deed ∷ h) t key ≡ (if has_table h p t then row_passed (next_owner h p t) (rows h t key) else rows h t key)
