-- Rows: the objects of a table under their keys (ets manual, `insert/2`).
use Rattle.std.specs.FinMap.{insert, FinMap, get, remove, values}
use Rattle.std.specs.List.{filter, list_any, filter_map}
use Rattle.std.specs.Prelude.{List, map, ℕ, ◌-◌, Bool, not, ◌==◌, [], ◌∷◌, ◌++◌, Option, Some, None, is_some, if◌then◌else◌}
use Rattle.term_core.specs.Meaning.{Meaning}
use Rattle.term_core.specs.Order.{order_of_terms}
use Rattle.world_model.specs.Names.{same_term}
use Rattle.world_model.specs.Terms.{tuple, list_of}
use Rattle.world_model.specs.declared.table.Kind.{Kind}
use Rattle.world_model.specs.declared.table.Kind.TheVariants.{Set, OrderedSet, Bag, DuplicateBag}

-- ---- keys and objects

abbrev pub Key : Type 0
Key = Meaning

abbrev pub same_key : Key → Key → Bool
same_key k l = same_term k l

-- an object is a tuple: here the list of its parts
abbrev pub Object : Type 0
Object = List Meaning

abbrev pub same_object : Object → Object → Bool
same_object a b = same_term (tuple a) (tuple b)

-- the part at a position, from 1 on
abbrev pub part_at : ℕ → Object → Option Meaning
part_at n [] = None
part_at n (x ∷ xs) = if n == 0 then None else (if n == 1 then Some x else part_at (n - 1) xs)

-- the object with another part there
abbrev pub with_part : ℕ → Meaning → Object → Object
with_part n x [] = []
with_part n x (y ∷ ys) = if n == 1 then x ∷ ys else y ∷ with_part (n - 1) x ys

-- and with others, one after the other
abbrev pub with_parts : List (ℕ × Meaning) → Object → Object
with_parts [] object = object
with_parts (part ∷ parts) object = with_parts parts (with_part part.0 part.1 object)

-- whether an object has no part there
abbrev pub is_short : ℕ → Object → Bool
is_short position object = not (is_some (part_at position object))

-- the parts of objects at a position, and the keys that objects have
abbrev pub parts_at : ℕ → List Object → List Meaning
parts_at position objects = filter_map (part_at position) objects

-- objects as a list of tuples
abbrev pub tuples : List Object → Meaning
tuples objects = list_of (map tuple objects)

-- ---- what a write does to the objects under one key

pub data RowChange : Type 0 where
  Stores : (kind : Kind) (object : Object) → RowChange
  Removes : (object : Object) → RowChange
  Clears : RowChange

-- in a set it replaces what was there; a bag holds it once; a duplicate_bag adds it
abbrev pub stored : Kind → Object → List Object → List Object
stored Set object there = object ∷ []
stored OrderedSet object there = object ∷ []
stored Bag object there = if list_any (same_object object) there then there else there ++ (object ∷ [])
stored DuplicateBag object there = there ++ (object ∷ [])

abbrev pub rewritten : RowChange → List Object → List Object
rewritten (Stores kind object) there = stored kind object there
rewritten (Removes object) there = filter (λ x. not (same_object object x)) there
rewritten Clears there = []

-- ---- all rows of a table: the objects under each key that has any, in the order of keys

abbrev pub Rows : Type 0
Rows = FinMap order_of_terms (List Object)

abbrev pub listed : Option (List Object) → List Object
listed None = []
listed (Some objects) = objects

abbrev pub some_if : List Object → Option (List Object)
some_if [] = None
some_if (x ∷ xs) = Some (x ∷ xs)

-- the objects under a key
abbrev pub under : Rows → Key → List Object
under rows key = listed (get rows key)

-- these objects under a key: a key without objects is no key
abbrev pub with_row : Key → List Object → Rows → Rows
with_row key [] rows = remove rows key
with_row key (x ∷ xs) rows = insert rows key (x ∷ xs)

abbrev pub rows_rewritten : Key → RowChange → Rows → Rows
rows_rewritten key change rows = with_row key (rewritten change (under rows key)) rows

abbrev pub joined : List (List Object) → List Object
joined [] = []
joined (xs ∷ rest) = xs ++ joined rest

-- the objects key by key
abbrev pub all_objects : Rows → List Object
all_objects rows = joined (values rows)
