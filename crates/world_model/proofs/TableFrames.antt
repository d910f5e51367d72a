-- The law of frames of each call of a table: contents that agree on what its line reads give it the same line.
use Rattle.std.proofs.Common.{◌∙◌, refl, ap}
use Rattle.std.specs.FinMap.{keys}
use Rattle.std.specs.Option.{option_or}
use Rattle.std.specs.Prelude.{Option, ◌||◌, if◌then◌else◌, ◌≡◌, ◌∷◌, ◌++◌, List, [], None, Some, map, length, option_map}
use Rattle.term_core.specs.Meaning.{Meaning}
use Rattle.world_model.specs.Calls.{TableArgument, ByName, ByReference, ByNothing, has_items, GiveAway, TableCall, Lookup, Member, LookupElement, First, Last, Next, Prev, ToList, Insert, InsertNew, DeleteTable, DeleteKey, DeleteObject, DeleteAll, Take, UpdateCounter, UpdateElement, SetOptions, Info, InfoAll, known_items}
use Rattle.world_model.specs.Cells.{Cell, Contents, TableName, Row}
use Rattle.world_model.specs.Changes.{RowWritten}
use Rattle.world_model.specs.TableAccess.{Found, find, meant, table_if, as_found, reads_of_find, unless_named, access_rule_at, is_table_argument}
use Rattle.world_model.specs.Frames.{AgreeOn}
use Rattle.world_model.specs.TableRules.{target_read, rows_of_found, found_line, refusal_by, table_reads, on_table_line}
use Rattle.world_model.specs.Names.{Name, Ref, Pid}
use Rattle.world_model.specs.Objects.{one_present, element_rule, element_answer, keys_asked}
use Rattle.world_model.specs.Ownership.{target_rule, gift_rule, gives_to}
use Rattle.world_model.specs.ProcessLines.{CallLine, serves_unless}
use Rattle.world_model.specs.Rows.{Key, all_objects, tuples, Clears}
use Rattle.world_model.specs.Signals.{first_of}
use Rattle.world_model.specs.Steps.{reads}
use Rattle.world_model.specs.TableLines as lines
use Rattle.world_model.specs.TableLines.{unless, table_line, gives, rows_read, counter_line, element_line, insert_new_line}
use Rattle.world_model.specs.Tables as tables
use Rattle.world_model.specs.Terms.{atom, ok, number, truth, tuple, list_of}
use Rattle.world_model.specs.RowFootprints.{EachRow, cells_of}
use Rattle.world_model.specs.Walks.{read_by_item, item_value, item_pair, key_or_end, last_key, walk_rule, key_after, key_before, item_rule}
use Rattle.world_model.specs.declared.rule.Rule.TheVariants.{BadTable}
use Rattle.world_model.specs.declared.table.Item.{Item}
use Rattle.world_model.specs.declared.table.Item.TheVariants as items

pub agree_parts : (v w : Contents) (cs ds : List Cell) → AgreeOn v w (cs ++ ds) → AgreeOn v w cs × AgreeOn v w ds
agree_parts v w [] ds agree = (tt, agree)
agree_parts v w (c ∷ cs) ds agree =
    let rest = agree_parts v w cs ds agree.1 in
    ((agree.0, rest.0), rest.1)

-- ---- what an argument finds

meant_framed : (v w : Contents) (o : Option Ref) → AgreeOn v w (table_if o) → meant v o ≡ meant w o
meant_framed v w None agree = refl
meant_framed v w (Some t) agree = ap (as_found t) agree.0.0

find_framed : (v w : Contents) (argument : TableArgument) → AgreeOn v w (reads_of_find v argument) → (find v argument ≡ find w argument) × (reads_of_find v argument ≡ reads_of_find w argument)
find_framed v w (ByName name) agree = (meant_framed v w (v (TableName name)) agree.1 ∙ ap (meant w) agree.0.0, λ i. TableName name ∷ table_if (agree.0.0 i))
find_framed v w (ByReference t) agree = ((λ i. unless_named (as_found t (agree.0.0 i))), refl)
find_framed v w ByNothing agree = (refl, refl)

-- ---- the lines, at a table that is found

one_present_framed : (v w : Contents) (t : Ref) (ks : List Key) → AgreeOn v w (map (Row t) ks) → one_present v t ks ≡ one_present w t ks
one_present_framed v w t [] agree = refl
one_present_framed v w t (k ∷ ks) agree = λ i. has_items (agree.0.0 i) || one_present_framed v w t ks agree.1 i

target_framed : (v w : Contents) (table : tables.Table) (to : Option Pid) (gift : Meaning) → AgreeOn v w (target_read (GiveAway to gift)) → target_rule v table to ≡ target_rule w table to
target_framed v w table None gift agree = refl
target_framed v w table (Some to) gift agree = ap (gift_rule table to) agree.0.0

item_framed : (v w : Contents) (f : Found) (item : Option Item) → AgreeOn v w (cells_of f.ref (read_by_item item)) → item_value v f item ≡ item_value w f item
item_framed v w f (Some items.Size) agree = λ i. number (length (all_objects (agree.0.0 i)))
item_framed v w f (Some items.Name) agree = refl
item_framed v w f item agree = refl

-- all items are those of one size
each_item_framed : (v w : Contents) (f : Found) (item : Item) → AgreeOn v w (cells_of f.ref EachRow) → item_value v f (Some item) ≡ item_value w f (Some item)
each_item_framed v w f items.Size agree = λ i. number (length (all_objects (agree.0.0 i)))
each_item_framed v w f item agree = refl

pairs_framed : (v w : Contents) (f : Found) (xs : List (Name × Item)) → AgreeOn v w (cells_of f.ref EachRow) → map (item_pair v f) xs ≡ map (item_pair w f) xs
pairs_framed v w f [] agree = refl
pairs_framed v w f (x ∷ xs) agree = λ i. tuple (atom x.0 ∷ each_item_framed v w f x.1 agree i ∷ []) ∷ pairs_framed v w f xs agree i

table_framed : (v w : Contents) (p : Pid) (f : Found) (call : TableCall) → AgreeOn v w (target_read call) → AgreeOn v w (cells_of f.ref (rows_read p f call)) → table_line v p f call ≡ table_line w p f call
table_framed v w p f (Lookup key) to row = λ i. gives (tuples (row.0.0 i)) []
table_framed v w p f (Member key) to row = λ i. gives (truth (has_items (row.0.0 i))) []
table_framed v w p f (LookupElement key position) to row = λ i. unless (element_rule position (row.0.0 i)) (element_answer f.table.kind position (row.0.0 i)) []
table_framed v w p f First to all = λ i. gives (key_or_end (first_of (keys (all.0.0 i)))) []
table_framed v w p f Last to all = λ i. gives (key_or_end (last_key f.table.kind (all.0.0 i))) []
table_framed v w p f (Next key) to all = λ i. unless (walk_rule f.table.kind key (all.0.0 i)) (key_or_end (key_after key (all.0.0 i))) []
table_framed v w p f (Prev key) to all = λ i. unless (walk_rule f.table.kind key (all.0.0 i)) (key_or_end (key_before f.table.kind key (all.0.0 i))) []
table_framed v w p f ToList to all = λ i. gives (tuples (all_objects (all.0.0 i))) []
table_framed v w p f (Insert objects) to none = refl
table_framed v w p f (InsertNew objects) to rows = ap (λ present. insert_new_line present f objects) (one_present_framed v w f.ref (keys_asked p f objects) rows)
table_framed v w p f DeleteTable to none = refl
table_framed v w p f (DeleteKey key) to row = refl
table_framed v w p f (DeleteObject object) to none = refl
table_framed v w p f DeleteAll to none = refl
table_framed v w p f (Take key) to row = λ i. gives (tuples (row.0.0 i)) (RowWritten f.ref key Clears ∷ [])
table_framed v w p f (UpdateCounter key increment default) to row = λ i. counter_line f key increment default (row.0.0 i)
table_framed v w p f (UpdateElement key changes) to row = λ i. element_line f key changes (row.0.0 i)
table_framed v w p f (GiveAway to gift) read none = λ i. unless (target_framed v w f.table to gift read i) ok (gives_to f to gift)
table_framed v w p f (SetOptions heirs) to none = refl
table_framed v w p f (Info item) to seen = λ i. unless (item_rule item) (item_framed v w f item seen i) []
table_framed v w p f InfoAll to all = λ i. gives (list_of (pairs_framed v w f known_items all i)) []

-- ---- with what is found or not

found_framed : (v w : Contents) (p : Pid) (call : TableCall) (o : Option Found) → AgreeOn v w (target_read call) → AgreeOn v w (rows_of_found p call o) → found_line v p call o ≡ found_line w p call o
found_framed v w p call None to rows = refl
found_framed v w p call (Some f) to rows = ap (λ l. unless (option_or (access_rule_at p f call) l.rule) l.answer l.changes) (table_framed v w p f call to rows)

-- the line, by what is found and what that gives
abbrev with_found : TableArgument → Option Found → lines.Line → List Cell → CallLine
with_found argument found l reads = serves_unless (option_map (refusal_by found) (if is_table_argument argument then l.rule else Some BadTable)) reads l.answer l.changes

pub on_table_framed : (v w : Contents) (p : Pid) (argument : TableArgument) (call : TableCall) → AgreeOn v w (table_reads v p argument call) → on_table_line v p argument call ≡ on_table_line w p argument call
on_table_framed v w p argument call agree =
    let parts = agree_parts v w (target_read call) (reads_of_find v argument ++ rows_of_found p call (find v argument)) agree in
    let inner = agree_parts v w (reads_of_find v argument) (rows_of_found p call (find v argument)) parts.1 in
    let finds = find_framed v w argument inner.0 in
    let same = found_framed v w p call (find v argument) parts.0 inner.1 ∙ ap (found_line w p call) finds.0 in
    λ i. with_found argument (finds.0 i) (same i) (target_read call ++ (finds.1 i ++ rows_of_found p call (finds.0 i)))
