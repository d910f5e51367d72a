-- Walks over the keys of a table, and the items that are reported about it (ets manual, `first/1`, `last/1`, `next/2`, `prev/2`, `info/1`, `info/2`).
use Rattle.std.specs.FinMap.{keys, contains_key}
use Rattle.std.specs.List.{filter}
use Rattle.std.specs.Ordering.{is_lt, is_gt}
use Rattle.std.specs.Prelude.{List, [], ◌∷◌, map, ◌||◌, if◌then◌else◌, Option, reverse, None, codes, Some, length}
use Rattle.term_core.specs.Meaning.{Meaning}
use Rattle.term_core.specs.Order.{order_of_terms}
use Rattle.world_model.specs.Calls.{known_items}
use Rattle.world_model.specs.Cells.{Rows, Contents}
use Rattle.world_model.specs.Ends.{heir_pid}
use Rattle.world_model.specs.TableAccess.{Found}
use Rattle.world_model.specs.Names.{Name}
use Rattle.world_model.specs.Rows as rows
use Rattle.world_model.specs.Rows.{Key, all_objects}
use Rattle.world_model.specs.Signals.{first_of}
use Rattle.world_model.specs.Tables.{is_ordered}
use Rattle.world_model.specs.Terms.{atom, ok, process, number, process_or, truth, tuple, list_of}
use Rattle.world_model.specs.RowFootprints.{Touch, EachRow, NoRow}
use Rattle.world_model.specs.declared.rule.Rule.{Rule}
use Rattle.world_model.specs.declared.rule.Rule.TheVariants.{NoKey, BadItem}
use Rattle.world_model.specs.declared.table.Item.{Item}
use Rattle.world_model.specs.declared.table.Item.TheVariants as items
use Rattle.world_model.specs.declared.table.Kind.{Kind}
use Rattle.world_model.specs.declared.table.Kind.TheVariants.{Set, OrderedSet, Bag, DuplicateBag}
use Rattle.world_model.specs.declared.table.Protection.{Protection}
use Rattle.world_model.specs.declared.table.Protection.TheVariants.{Public, Protected, Private}

-- ---- walks: over the keys that have rows, in their order

abbrev pub last_of : {A : Type 0} → List A → Option A
last_of xs = first_of (reverse xs)

abbrev pub key_or_end : Option Key → Meaning
key_or_end None = atom (codes "$end_of_table")
key_or_end (Some key) = key

abbrev pub last_key : Kind → rows.Rows → Option Key
last_key kind all = if is_ordered kind then last_of (keys all) else first_of (keys all)

abbrev pub key_after : Key → rows.Rows → Option Key
key_after key all = first_of (filter (λ k. is_lt (order_of_terms key k)) (keys all))

abbrev pub key_before : Kind → Key → rows.Rows → Option Key
key_before kind key all = if is_ordered kind then last_of (filter (λ k. is_gt (order_of_terms key k)) (keys all)) else key_after key all

-- but in an ordered_set the key that one goes on from is there
abbrev pub walk_rule : Kind → Key → rows.Rows → Option Rule
walk_rule kind key all = if is_ordered kind || contains_key all key then None else Some NoKey

-- ---- items

abbrev pub kind_name : Kind → Name
kind_name Set = codes "set"
kind_name OrderedSet = codes "ordered_set"
kind_name Bag = codes "bag"
kind_name DuplicateBag = codes "duplicate_bag"

abbrev pub protection_name : Protection → Name
protection_name Public = codes "public"
protection_name Protected = codes "protected"
protection_name Private = codes "private"

abbrev pub item_rule : Option Item → Option Rule
item_rule None = Some BadItem
item_rule (Some item) = None

abbrev pub item_value : Contents → Found → Option Item → Meaning
item_value v f None = ok
item_value v f (Some items.Name) = atom f.table.name
item_value v f (Some items.Type) = atom (kind_name f.table.kind)
item_value v f (Some items.Protection) = atom (protection_name f.table.protection)
item_value v f (Some items.Owner) = process f.table.owner
item_value v f (Some items.Size) = number (length (all_objects (v (Rows f.ref))))
item_value v f (Some items.Position) = number f.table.position
item_value v f (Some items.Heir) = process_or (codes "none") (heir_pid f.table.heir)
item_value v f (Some items.NamedTable) = truth f.table.is_named

-- all of them, each with its name
abbrev pub item_pair : Contents → Found → (Name × Item) → Meaning
item_pair v f item = tuple (atom item.0 ∷ item_value v f (Some item.1) ∷ [])

abbrev pub all_items : Contents → Found → Meaning
all_items v f = list_of (map (item_pair v f) known_items)

abbrev pub read_by_item : Option Item → Touch
read_by_item (Some items.Size) = EachRow
read_by_item item = NoRow
