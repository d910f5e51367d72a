-- The rows that a served call of a table writes, and what it leaves under each key.
use Rattle.std.specs.Option.{option_or}
use Rattle.std.specs.Prelude.{if◌then◌else◌, ◌∷◌, ◌≡◌, ℕ, Option, List, None, [], Some, Bool, true, false, map}
use Rattle.term_core.specs.Meaning.{Meaning}
use Rattle.term_core.specs.declared.step.Step.TheVariants.{Turn}
use Rattle.core_calls.specs.declared.call.CallKind.{CallKind}
use Rattle.world_model.specs.Calls.{TableCall, Insert, InsertNew, DeleteTable, DeleteKey, DeleteObject, DeleteAll, Take, UpdateCounter, UpdateElement, TableArgument, call_of, OnTable}
use Rattle.world_model.specs.Cells.{Row, Rows, Contents, Cell}
use Rattle.world_model.specs.Changes.{cell_of}
use Rattle.world_model.specs.Events.{History, event, Served}
use Rattle.world_model.specs.TableAccess.{Found}
use Rattle.world_model.specs.Names.{Pid}
use Rattle.world_model.specs.Objects.{given, one_present, keys_asked, counter_object}
use Rattle.world_model.specs.Rows.{Object, Key, parts_at, same_key, stored, part_at, with_parts, rewritten, Removes}
use Rattle.world_model.specs.TableLines.{table_line}
use Rattle.world_model.specs.Tables.{is_bag}
use Rattle.world_model.specs.RowFootprints.{Touch, NoRow, RowsOfKeys, EachRow, cells_of}
use Rattle.world_model.specs.World.{rows, found, contents}
use Rattle.world_model.specs.declared.table.Kind.{Kind}

-- ---- which rows it writes

abbrev pub key_of_object : ℕ → Option Object → List Key
key_of_object position None = []
key_of_object position (Some object) = parts_at position (object ∷ [])

abbrev pub unless_present : Bool → List Key → Touch
unless_present true ks = NoRow
unless_present false ks = RowsOfKeys ks

abbrev pub if_there : List Object → Key → Touch
if_there [] key = NoRow
if_there (object ∷ objects) key = RowsOfKeys (key ∷ [])

abbrev pub rows_written : Contents → Pid → Found → TableCall → Touch
rows_written v p f (Insert objects) = RowsOfKeys (parts_at f.table.position (given objects))
rows_written v p f (InsertNew objects) = unless_present (one_present v f.ref (keys_asked p f objects)) (parts_at f.table.position (given objects))
rows_written v p f DeleteTable = EachRow
rows_written v p f (DeleteKey key) = RowsOfKeys (key ∷ [])
rows_written v p f (DeleteObject object) = RowsOfKeys (key_of_object f.table.position object)
rows_written v p f DeleteAll = EachRow
rows_written v p f (Take key) = RowsOfKeys (key ∷ [])
rows_written v p f (UpdateCounter key increment default) = RowsOfKeys (key ∷ [])
rows_written v p f (UpdateElement key changes) = if_there (v (Row f.ref key)) key
rows_written v p f call = NoRow

-- the cells among these that are rows
abbrev pub rows_in : List Cell → List Cell
rows_in [] = []
rows_in (Row t key ∷ cs) = Row t key ∷ rows_in cs
rows_in (Rows t ∷ cs) = Rows t ∷ rows_in cs
rows_in (c ∷ cs) = rows_in cs

-- a call that no argument breaks writes those rows and no others
abbrev pub WritesRows : Type 0
WritesRows = (v : Contents) (p : Pid) (f : Found) (call : TableCall) → (table_line v p f call).rule ≡ None → rows_in (map cell_of (table_line v p f call).changes) ≡ cells_of f.ref (rows_written v p f call)

-- ---- what it leaves under a key

-- one row, or what was there
abbrev pub under_key : Bool → List Object → List Object → List Object
under_key true row there = row
under_key false row there = there

abbrev pub is_key : Key → Option Key → Bool
is_key key None = false
is_key key (Some k) = same_key k key

-- objects that are put in one after the other
abbrev pub stored_all : Kind → ℕ → Key → List Object → List Object → List Object
stored_all kind position key [] there = there
stored_all kind position key (o ∷ os) there = stored_all kind position key os (under_key (is_key key (part_at position o)) (stored kind o there) there)

abbrev pub without_object : Key → ℕ → Option Object → List Object → List Object
without_object key position None there = there
without_object key position (Some o) there = under_key (is_key key (part_at position o)) (rewritten (Removes o) there) there

-- an object with other parts in the place of the one that was there, if one was
abbrev pub with_changes : Kind → Option (List (ℕ × Meaning)) → List Object → List Object → List Object
with_changes kind changes [] there = there
with_changes kind changes (object ∷ objects) there = stored kind (with_parts (given changes) object) there

abbrev pub rows_left : Contents → Pid → Found → TableCall → Key → List Object → List Object
rows_left v p f (Insert objects) k there = stored_all f.table.kind f.table.position k (given objects) there
rows_left v p f (InsertNew objects) k there = under_key (one_present v f.ref (keys_asked p f objects)) there (stored_all f.table.kind f.table.position k (given objects) there)
rows_left v p f DeleteTable k there = []
rows_left v p f (DeleteKey key) k there = under_key (same_key key k) [] there
rows_left v p f (DeleteObject object) k there = without_object k f.table.position object there
rows_left v p f DeleteAll k there = []
rows_left v p f (Take key) k there = under_key (same_key key k) [] there
rows_left v p f (UpdateCounter key increment default) k there = under_key (same_key key k) (stored f.table.kind (counter_object f.table key increment default (v (Row f.ref key))) there) there
rows_left v p f (UpdateElement key changes) k there = under_key (same_key key k) (with_changes f.table.kind changes (v (Row f.ref key)) there) there
rows_left v p f call k there = there

-- the rows of the table that is found, after a served call of it
abbrev pub LeavesRows : Type 0
LeavesRows = (h : History) (p : Pid) (kind : CallKind) (arguments : List Meaning) (argument : TableArgument) (call : TableCall) (answer : Meaning) (f : Found) (key : Key) → call_of kind arguments ≡ OnTable argument call → found h argument ≡ Some f → rows (event (Turn p) (Served kind arguments answer) ∷ h) f.ref key ≡ rows_left (contents h) p f call key (rows h f.ref key)

-- ---- in a set and an ordered_set the last object with a key replaces what was there

abbrev pub last_with : ℕ → Key → List Object → Option Object
last_with position key [] = None
last_with position key (o ∷ os) = option_or (last_with position key os) (if is_key key (part_at position o) then Some o else None)

abbrev pub replaced : Option Object → List Object → List Object
replaced None there = there
replaced (Some object) there = object ∷ []

abbrev pub KeepsTheLast : Type 0
KeepsTheLast = (kind : Kind) (position : ℕ) (key : Key) (os : List Object) (there : List Object) → is_bag kind ≡ false → stored_all kind position key os there ≡ replaced (last_with position key os) there
