-- The line of a call by the settings and the rows of a table, in place of the contents of cells.
use Rattle.std.specs.FinMap.{keys}
use Rattle.std.specs.Prelude.{◌≡◌, Bool, not, ◌||◌, if◌then◌else◌, List, [], ◌∷◌, Option, Some, None, codes, length, map}
use Rattle.term_core.specs.Meaning.{Meaning}
use Rattle.ets_store.specs.TableRows.{one_has_key}
use Rattle.ets_store.specs.Tables.{settings_in}
use Rattle.ets_store.specs.declared.table.Table.{Table}
use Rattle.world_model.specs.Calls.{Increment, TableCall, Lookup, Member, LookupElement, First, Last, Next, Prev, ToList, Insert, InsertNew, DeleteTable, DeleteKey, DeleteObject, DeleteAll, Take, UpdateCounter, UpdateElement, GiveAway, SetOptions, Info, InfoAll, has_items, known_items}
use Rattle.world_model.specs.Ends.{heir_pid}
use Rattle.world_model.specs.Names.{Name, Pid}
use Rattle.world_model.specs.Objects.{given, objects_rule, one_object, element_rule, element_answer, counter_rule, counter_answer, update_rule}
use Rattle.world_model.specs.Ownership.{gift_rule, heirs_rule}
use Rattle.world_model.specs.Rows as rows
use Rattle.world_model.specs.Rows.{Key, Object, tuples, under, all_objects, parts_at}
use Rattle.world_model.specs.RowsLeft.{unless_present, if_there, key_of_object}
use Rattle.world_model.specs.Signals.{first_of}
use Rattle.world_model.specs.Tables as tables
use Rattle.world_model.specs.Tables.{is_ordered}
use Rattle.world_model.specs.Terms.{atom, ok, process, number, process_or, truth, tuple, list_of}
use Rattle.world_model.specs.RowFootprints.{Touch, NoRow, RowsOfKeys, EachRow}
use Rattle.world_model.specs.Walks.{item_rule, key_or_end, last_key, key_after, key_before, kind_name, protection_name}
use Rattle.world_model.specs.declared.rule.Rule.{Rule}
use Rattle.world_model.specs.declared.rule.Rule.TheVariants.{DeadTarget, NoKey}
use Rattle.world_model.specs.declared.table.Item.{Item}
use Rattle.world_model.specs.declared.table.Item.TheVariants as items
use Rattle.world_model.specs.declared.table.Kind.{Kind}

-- ---- the rule

-- a key that has no objects is not there
abbrev pub held_walk : Kind → Key → rows.Rows → Option Rule
held_walk kind key all = if is_ordered kind || has_items (under all key) then None else Some NoKey

abbrev pub held_target : tables.Table → (Pid → Bool) → Option Pid → Option Rule
held_target t lives None = Some DeadTarget
held_target t lives (Some to) = gift_rule t to (lives to)

abbrev pub held_rule : tables.Table → rows.Rows → (Pid → Bool) → TableCall → Option Rule
held_rule t all lives (Lookup key) = None
held_rule t all lives (Member key) = None
held_rule t all lives (LookupElement key position) = element_rule position (under all key)
held_rule t all lives First = None
held_rule t all lives Last = None
held_rule t all lives (Next key) = held_walk t.kind key all
held_rule t all lives (Prev key) = held_walk t.kind key all
held_rule t all lives ToList = None
held_rule t all lives (Insert objects) = objects_rule t.position objects
held_rule t all lives (InsertNew objects) = objects_rule t.position objects
held_rule t all lives DeleteTable = None
held_rule t all lives (DeleteKey key) = None
held_rule t all lives (DeleteObject object) = objects_rule t.position (one_object object)
held_rule t all lives DeleteAll = None
held_rule t all lives (Take key) = None
held_rule t all lives (UpdateCounter key increment default) = counter_rule t increment default (under all key)
held_rule t all lives (UpdateElement key changes) = update_rule t changes (under all key)
held_rule t all lives (GiveAway to gift) = held_target t lives to
held_rule t all lives (SetOptions heirs) = heirs_rule heirs
held_rule t all lives (Info item) = item_rule item
held_rule t all lives InfoAll = None

-- the rule of a counter, where the call is one
abbrev pub held_counter : tables.Table → rows.Rows → TableCall → Option Rule
held_counter t all (UpdateCounter key increment default) = counter_rule t increment default (under all key)
held_counter t all call = None

-- ---- the answer

abbrev pub held_item : tables.Table → rows.Rows → Option Item → Meaning
held_item t all None = ok
held_item t all (Some items.Name) = atom t.name
held_item t all (Some items.Type) = atom (kind_name t.kind)
held_item t all (Some items.Protection) = atom (protection_name t.protection)
held_item t all (Some items.Owner) = process t.owner
held_item t all (Some items.Size) = number (length (all_objects all))
held_item t all (Some items.Position) = number t.position
held_item t all (Some items.Heir) = process_or (codes "none") (heir_pid t.heir)
held_item t all (Some items.NamedTable) = truth t.is_named

abbrev pub held_pair : tables.Table → rows.Rows → (Name × Item) → Meaning
held_pair t all item = tuple (atom item.0 ∷ held_item t all (Some item.1) ∷ [])

abbrev pub held_items : tables.Table → rows.Rows → Meaning
held_items t all = list_of (map (held_pair t all) known_items)

abbrev pub held_answer : tables.Table → rows.Rows → TableCall → Meaning
held_answer t all (Lookup key) = tuples (under all key)
held_answer t all (Member key) = truth (has_items (under all key))
held_answer t all (LookupElement key position) = element_answer t.kind position (under all key)
held_answer t all First = key_or_end (first_of (keys all))
held_answer t all Last = key_or_end (last_key t.kind all)
held_answer t all (Next key) = key_or_end (key_after key all)
held_answer t all (Prev key) = key_or_end (key_before t.kind key all)
held_answer t all ToList = tuples (all_objects all)
held_answer t all (Insert objects) = ok
held_answer t all (InsertNew objects) = truth (not (one_has_key t.position (given objects) all))
held_answer t all DeleteTable = ok
held_answer t all (DeleteKey key) = ok
held_answer t all (DeleteObject object) = ok
held_answer t all DeleteAll = ok
held_answer t all (Take key) = tuples (under all key)
held_answer t all (UpdateCounter key increment default) = counter_answer t increment default (under all key)
held_answer t all (UpdateElement key changes) = truth (has_items (under all key))
held_answer t all (GiveAway to gift) = ok
held_answer t all (SetOptions heirs) = ok
held_answer t all (Info item) = held_item t all item
held_answer t all InfoAll = held_items t all

-- ---- the rows that it writes

abbrev pub new_written : tables.Table → rows.Rows → List Object → Touch
new_written t all objects = unless_present (one_has_key t.position objects all) (parts_at t.position objects)

abbrev pub held_written : tables.Table → rows.Rows → TableCall → Touch
held_written t all (Insert objects) = RowsOfKeys (parts_at t.position (given objects))
held_written t all (InsertNew objects) = new_written t all (given objects)
held_written t all DeleteTable = EachRow
held_written t all (DeleteKey key) = RowsOfKeys (key ∷ [])
held_written t all (DeleteObject object) = RowsOfKeys (key_of_object t.position object)
held_written t all DeleteAll = EachRow
held_written t all (Take key) = RowsOfKeys (key ∷ [])
held_written t all (UpdateCounter key increment default) = RowsOfKeys (key ∷ [])
held_written t all (UpdateElement key changes) = if_there (under all key) key
held_written t all call = NoRow

-- ---- at a table, where no counter is refused

-- a counter answers this
abbrev pub IsHeldSum : Table → Key → Increment → Option (Option Object) → Meaning → Type 0
IsHeldSum t key increment default answer = counter_rule (settings_in t) increment default (under t.rows.rows key) ≡ None → answer ≡ counter_answer (settings_in t) increment default (under t.rows.rows key)

-- a call has this answer
abbrev pub IsHeldAnswer : Table → TableCall → Meaning → Type 0
IsHeldAnswer t call answer = held_counter (settings_in t) t.rows.rows call ≡ None → answer ≡ held_answer (settings_in t) t.rows.rows call
