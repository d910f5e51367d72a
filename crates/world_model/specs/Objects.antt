-- Objects that are put in and taken out, and their elements (ets manual, `insert/2`, `insert_new/2`, `delete_object/2`, `lookup_element/3`, `update_counter/3`, `update_counter/4`, `update_element/3`).
use Rattle.std.specs.List.{list_any}
use Rattle.std.specs.Option.{option_or}
use Rattle.std.specs.Prelude.{List, Option, ◌++◌, ◌||◌, ◌&&◌, ◌+ℤ◌, int_lt, ℤ, if◌then◌else◌, ◌+◌, ◌==◌, ◌∷◌, ℕ, pos, negsuc, None, Some, [], option_map, Bool, not, true, false, option_and_then}
use Rattle.term_core.specs.Integers.{has_64_bits}
use Rattle.term_core.specs.Meaning.{Int, Meaning}
use Rattle.world_model.specs.Calls.{has_items, Addition, Increment, AfterKey, AtPlace, InTurn, NotGiven}
use Rattle.world_model.specs.Cells.{Contents, Row}
use Rattle.world_model.specs.Changes.{Change, RowWritten}
use Rattle.world_model.specs.TableAccess.{Found, access_rule}
use Rattle.world_model.specs.Names.{Pid, Ref, same_pid}
use Rattle.world_model.specs.Rows.{Object, is_short, Key, Stores, part_at, with_part, with_parts, Removes, parts_at}
use Rattle.world_model.specs.Signals.{first_of}
use Rattle.world_model.specs.Tables as tables
use Rattle.world_model.specs.Tables.{is_bag}
use Rattle.world_model.specs.Terms.{ok, list_of, integer_in}
use Rattle.world_model.specs.declared.rule.Rule.{Rule}
use Rattle.world_model.specs.declared.rule.Rule.TheVariants.{NotObject, ShortObject, BadPosition, NoKey, CounterRange, NotInteger, BagRefused}
use Rattle.world_model.specs.declared.table.Class.TheVariants.{Write}
use Rattle.world_model.specs.declared.table.Kind.{Kind}

-- ---- objects

abbrev pub objects_rule : ℕ → Option (List Object) → Option Rule
objects_rule position None = Some NotObject
objects_rule position (Some objects) = if list_any (is_short position) objects then Some ShortObject else None

-- the objects that are given, or none
abbrev pub given : {A : Type 0} → Option (List A) → List A
given None = []
given (Some objects) = objects

abbrev pub one_object : Option Object → Option (List Object)
one_object object = option_map (λ o. o ∷ []) object

-- each object is put in under its key, in order
abbrev pub stored_at : Found → Object → Option Key → List Change
stored_at f object None = []
stored_at f object (Some key) = RowWritten f.ref key (Stores f.table.kind object) ∷ []

abbrev pub stores : Found → List Object → List Change
stores f [] = []
stores f (o ∷ os) = stored_at f o (part_at f.table.position o) ++ stores f os

abbrev pub removed_at : Found → Object → Option Key → List Change
removed_at f object None = []
removed_at f object (Some key) = RowWritten f.ref key (Removes object) ∷ []

abbrev pub removes : Found → Option Object → List Change
removes f None = []
removes f (Some object) = removed_at f object (part_at f.table.position object)

-- the keys that an `insert_new/2` looks at: none where it is refused
abbrev pub unless_refused : Option Rule → List Key → List Key
unless_refused None ks = ks
unless_refused (Some rule) ks = []

abbrev pub keys_asked : Pid → Found → Option (List Object) → List Key
keys_asked p f objects = unless_refused (option_or (access_rule Write f.table.protection (same_pid f.table.owner p)) (objects_rule f.table.position objects)) (parts_at f.table.position (given objects))

-- whether one of these keys has objects
abbrev pub one_present : Contents → Ref → List Key → Bool
one_present v t ks = list_any (λ key. has_items (v (Row t key))) ks

-- ---- elements

-- the position is one, the key is there, and each object is long enough
abbrev pub place_rule : ℕ → List Object → Option Rule
place_rule position there = if list_any (is_short position) there then Some BadPosition else None

abbrev pub element_rule : Option ℕ → List Object → Option Rule
element_rule None there = Some BadPosition
element_rule (Some position) there = if has_items there then place_rule position there else Some NoKey

abbrev pub value_or_ok : Option Meaning → Meaning
value_or_ok None = ok
value_or_ok (Some m) = m

-- the element; in a bag the list
abbrev pub element_or_list : Kind → List Meaning → Meaning
element_or_list kind parts = if is_bag kind then list_of parts else value_or_ok (first_of parts)

abbrev pub element_answer : Kind → Option ℕ → List Object → Meaning
element_answer kind None there = ok
element_answer kind (Some position) there = element_or_list kind (parts_at position there)

-- where a position may be written: one, and not that of the key
abbrev pub is_key_or_none : ℕ → ℕ → Bool
is_key_or_none key position = position == 0 || position == key

-- ---- update_counter: the additions, one after the other

-- an integer alone is added after the key
abbrev pub additions_of : ℕ → Increment → List Addition
additions_of key (AfterKey n) = record { position = key + 1; amount = n; limit = None } ∷ []
additions_of key (AtPlace addition) = addition ∷ []
additions_of key (InTurn additions) = additions
additions_of key NotGiven = []

abbrev pub is_increment : Increment → Bool
is_increment (AfterKey n) = true
is_increment (AtPlace addition) = true
is_increment (InTurn additions) = true
is_increment NotGiven = false

-- whether a sum is past a limit: above it, or below it where something is taken away
abbrev pub is_past : ℤ → ℤ → ℤ → Bool
is_past (pos amount) limit sum = int_lt limit sum
is_past (negsuc amount) limit sum = int_lt sum limit

abbrev pub limited : ℤ → Option (ℤ × ℤ) → ℤ → ℤ
limited amount None sum = sum
limited amount (Some limit) sum = if is_past amount limit.0 sum then limit.1 else sum

-- what an integer becomes by an addition
abbrev pub counted : Addition → ℤ → ℤ
counted addition x = limited addition.amount addition.limit (x +ℤ addition.amount)

abbrev pub counted_from : Addition → Option ℤ → ℤ
counted_from addition None = addition.amount
counted_from addition (Some x) = counted addition x

-- the sum that an addition to an object comes to, and the object with it
abbrev pub sum_in : Addition → Object → ℤ
sum_in addition object = counted_from addition (option_and_then integer_in (part_at addition.position object))

abbrev pub added : Addition → Object → Object
added addition object = with_part addition.position (Int (sum_in addition object)) object

abbrev pub all_added : List Addition → Object → Object
all_added [] object = object
all_added (addition ∷ additions) object = all_added additions (added addition object)

abbrev pub sums_in : List Addition → Object → List Meaning
sums_in [] object = []
sums_in (addition ∷ additions) object = Int (sum_in addition object) ∷ sums_in additions (added addition object)

-- ---- and its rules

abbrev pub range_rule : ℤ → Option Rule
range_rule sum = if has_64_bits sum then None else Some CounterRange

-- the element is there, is an integer, and what it becomes has 64 bits
abbrev pub addend_rule : Addition → Option ℤ → Option Rule
addend_rule addition None = Some NotInteger
addend_rule addition (Some x) = range_rule (counted addition x)

abbrev pub sum_rule : Addition → Option Meaning → Option Rule
sum_rule addition None = Some BadPosition
sum_rule addition (Some element) = addend_rule addition (integer_in element)

abbrev pub sums_rule : List Addition → Object → Option Rule
sums_rule [] object = None
sums_rule (addition ∷ additions) object = option_or (sum_rule addition (part_at addition.position object)) (sums_rule additions (added addition object))

-- the object that is added to: the one that is there, or else the default, if one is given
abbrev pub start_of : Option (Option Object) → List Object → Object
start_of default (object ∷ objects) = object
start_of (Some (Some object)) [] = object
start_of default [] = []

-- a default is an object, also where it is not taken; where it is, it has a part for the key
abbrev pub start_rule : ℕ → Option (Option Object) → List Object → Option Rule
start_rule key None there = if has_items there then None else Some NoKey
start_rule key (Some None) there = Some NotObject
start_rule key (Some (Some object)) there = if not (has_items there) && is_short key object then Some ShortObject else None

-- no addition is at the place of the key, or at none
abbrev pub places_rule : ℕ → List Addition → Option Rule
places_rule key additions = if list_any (λ addition. is_key_or_none key addition.position) additions then Some BadPosition else None

abbrev pub additions_rule : ℕ → List Addition → Option (Option Object) → List Object → Option Rule
additions_rule key additions default there = option_or (places_rule key additions) (option_or (start_rule key default there) (sums_rule additions (start_of default there)))

abbrev pub counter_rule : tables.Table → Increment → Option (Option Object) → List Object → Option Rule
counter_rule table increment default there =
    if is_bag table.kind then Some BagRefused else
    (if not (is_increment increment) then Some NotInteger else
    additions_rule table.position (additions_of table.position increment) default there)

-- what it answers: the sum, or of a list the list of sums
abbrev pub sums_answer : Increment → List Meaning → Meaning
sums_answer (InTurn additions) sums = list_of sums
sums_answer increment sums = value_or_ok (first_of sums)

abbrev pub counter_answer : tables.Table → Increment → Option (Option Object) → List Object → Meaning
counter_answer table increment default there = sums_answer increment (sums_in (additions_of table.position increment) (start_of default there))

-- and the object that it leaves under a key
abbrev pub counter_object : tables.Table → Key → Increment → Option (Option Object) → List Object → Object
counter_object table key increment default there = with_part table.position key (all_added (additions_of table.position increment) (start_of default there))

-- ---- update_element

-- whether a change is at the place of the key, at none, or where the object has no part
abbrev pub is_misplaced : ℕ → Object → (ℕ × Meaning) → Bool
is_misplaced key object change = is_key_or_none key change.0 || is_short change.0 object

abbrev pub changes_rule : ℕ → Option (List (ℕ × Meaning)) → Object → Option Rule
changes_rule key None object = Some BadPosition
changes_rule key (Some changes) object = if list_any (is_misplaced key object) changes then Some BadPosition else None

-- where the key is missing no part is
abbrev pub unplaced_rule : ℕ → Option (List (ℕ × Meaning)) → Option Rule
unplaced_rule key None = Some BadPosition
unplaced_rule key (Some changes) = if list_any (λ change. is_key_or_none key change.0) changes then Some BadPosition else None

abbrev pub rule_of_changes : ℕ → Option (List (ℕ × Meaning)) → List Object → Option Rule
rule_of_changes key changes [] = unplaced_rule key changes
rule_of_changes key changes (object ∷ objects) = changes_rule key changes object

abbrev pub update_rule : tables.Table → Option (List (ℕ × Meaning)) → List Object → Option Rule
update_rule table changes there = if is_bag table.kind then Some BagRefused else rule_of_changes table.position changes there

-- the object is replaced by the one that has all these parts
abbrev pub alters : Found → Key → Option (List (ℕ × Meaning)) → List Object → List Change
alters f key changes [] = []
alters f key changes (object ∷ objects) = RowWritten f.ref key (Stores f.table.kind (with_parts (given changes) object)) ∷ []
