-- The calls of tables line by line, at a table that is found: the first rule of the arguments that fails, and where none does the answer and the changes; and the rows that the line reads (Erlang manual, module `ets`, each under the name of its call).
use Rattle.std.specs.FinMap.{keys}
use Rattle.std.specs.Prelude.{◌∷◌, ℕ, if◌then◌else◌, Option, List, None, not, Bool, []}
use Rattle.term_core.specs.Meaning.{Meaning}
use Rattle.world_model.specs.Calls.{Increment, TableCall, Lookup, Member, LookupElement, First, Last, Next, Prev, ToList, Insert, InsertNew, DeleteTable, DeleteKey, DeleteObject, DeleteAll, Take, UpdateCounter, UpdateElement, GiveAway, SetOptions, Info, InfoAll, has_items}
use Rattle.world_model.specs.Cells.{Row, Rows, Contents}
use Rattle.world_model.specs.Changes.{Change, RowWritten, RowsCleared}
use Rattle.world_model.specs.TableAccess.{Found}
use Rattle.world_model.specs.Names.{Pid}
use Rattle.world_model.specs.Objects.{objects_rule, stores, given, counter_rule, counter_answer, counter_object, keys_asked, element_rule, element_answer, one_present, one_object, removes, update_rule, alters}
use Rattle.world_model.specs.Ownership.{destroyed, target_rule, gives_to, heirs_rule, heirs_set}
use Rattle.world_model.specs.Rows.{Key, Object, Stores, tuples, all_objects, Clears}
use Rattle.world_model.specs.Signals.{first_of}
use Rattle.world_model.specs.Terms.{ok, truth}
use Rattle.world_model.specs.RowFootprints.{Touch, RowsOfKeys, EachRow, NoRow}
use Rattle.world_model.specs.Walks.{read_by_item, key_or_end, last_key, walk_rule, key_after, key_before, item_rule, item_value, all_items}
use Rattle.world_model.specs.declared.rule.Rule.{Rule}

pub record Line : Type 0 where
  pub rule : Option Rule
  pub answer : Meaning
  pub changes : List Change

-- a line that no argument breaks: its answer, its changes
abbrev pub gives : Meaning → List Change → Line
gives answer changes = record { rule = None; answer = answer; changes = changes }

-- a line that a rule may break: the rule if it does, and then as above
abbrev pub unless : Option Rule → Meaning → List Change → Line
unless rule answer changes = record { rule = rule; answer = answer; changes = changes }

-- where a key is there nothing is put in
abbrev pub insert_new_line : Bool → Found → Option (List Object) → Line
insert_new_line present f objects = unless (objects_rule f.table.position objects) (truth (not present)) (if present then [] else stores f (given objects))

-- the object with the sums is put in the place of what was there
abbrev pub counter_line : Found → Key → Increment → Option (Option Object) → List Object → Line
counter_line f key increment default there = unless (counter_rule f.table increment default there) (counter_answer f.table increment default there) (RowWritten f.ref key (Stores f.table.kind (counter_object f.table key increment default there)) ∷ [])

-- whether the key was there
abbrev pub element_line : Found → Key → Option (List (ℕ × Meaning)) → List Object → Line
element_line f key changes there = unless (update_rule f.table changes there) (truth (has_items there)) (alters f key changes there)

-- ---- the rows that a line reads

abbrev pub rows_read : Pid → Found → TableCall → Touch
rows_read p f (Lookup key) = RowsOfKeys (key ∷ [])
rows_read p f (Member key) = RowsOfKeys (key ∷ [])
rows_read p f (LookupElement key position) = RowsOfKeys (key ∷ [])
rows_read p f First = EachRow
rows_read p f Last = EachRow
rows_read p f (Next key) = EachRow
rows_read p f (Prev key) = EachRow
rows_read p f ToList = EachRow
rows_read p f (Insert objects) = NoRow
rows_read p f (InsertNew objects) = RowsOfKeys (keys_asked p f objects)
rows_read p f DeleteTable = NoRow
rows_read p f (DeleteKey key) = RowsOfKeys (key ∷ [])
rows_read p f (DeleteObject object) = NoRow
rows_read p f DeleteAll = NoRow
rows_read p f (Take key) = RowsOfKeys (key ∷ [])
rows_read p f (UpdateCounter key increment default) = RowsOfKeys (key ∷ [])
rows_read p f (UpdateElement key changes) = RowsOfKeys (key ∷ [])
rows_read p f (GiveAway to gift) = NoRow
rows_read p f (SetOptions heirs) = NoRow
rows_read p f (Info item) = read_by_item item
rows_read p f InfoAll = EachRow

-- ---- the lines

abbrev pub table_line : Contents → Pid → Found → TableCall → Line
-- lookup/2
table_line v p f (Lookup key) = gives (tuples (v (Row f.ref key))) []
-- member/2
table_line v p f (Member key) = gives (truth (has_items (v (Row f.ref key)))) []
-- lookup_element/3
table_line v p f (LookupElement key position) = unless (element_rule position (v (Row f.ref key))) (element_answer f.table.kind position (v (Row f.ref key))) []
-- first/1, last/1
table_line v p f First = gives (key_or_end (first_of (keys (v (Rows f.ref))))) []
table_line v p f Last = gives (key_or_end (last_key f.table.kind (v (Rows f.ref)))) []
-- next/2, prev/2
table_line v p f (Next key) = unless (walk_rule f.table.kind key (v (Rows f.ref))) (key_or_end (key_after key (v (Rows f.ref)))) []
table_line v p f (Prev key) = unless (walk_rule f.table.kind key (v (Rows f.ref))) (key_or_end (key_before f.table.kind key (v (Rows f.ref)))) []
-- tab2list/1
table_line v p f ToList = gives (tuples (all_objects (v (Rows f.ref)))) []
-- insert/2
table_line v p f (Insert objects) = unless (objects_rule f.table.position objects) ok (stores f (given objects))
-- insert_new/2
table_line v p f (InsertNew objects) = insert_new_line (one_present v f.ref (keys_asked p f objects)) f objects
-- delete/1
table_line v p f DeleteTable = gives ok (destroyed f)
-- delete/2
table_line v p f (DeleteKey key) = gives ok (RowWritten f.ref key Clears ∷ [])
-- delete_object/2
table_line v p f (DeleteObject object) = unless (objects_rule f.table.position (one_object object)) ok (removes f object)
-- delete_all_objects/1
table_line v p f DeleteAll = gives ok (RowsCleared f.ref ∷ [])
-- take/2
table_line v p f (Take key) = gives (tuples (v (Row f.ref key))) (RowWritten f.ref key Clears ∷ [])
-- update_counter/3, update_counter/4
table_line v p f (UpdateCounter key increment default) = counter_line f key increment default (v (Row f.ref key))
-- update_element/3
table_line v p f (UpdateElement key changes) = element_line f key changes (v (Row f.ref key))
-- give_away/3
table_line v p f (GiveAway to gift) = unless (target_rule v f.table to) ok (gives_to f to gift)
-- setopts/2
table_line v p f (SetOptions heirs) = unless (heirs_rule heirs) ok (heirs_set f.ref (given heirs))
-- info/2
table_line v p f (Info item) = unless (item_rule item) (item_value v f item) []
-- info/1
table_line v p f InfoAll = gives (all_items v f) []
