-- The line of a call at a table that holds its rows.
use Rattle.std.proofs.Common.{◌≡◌, ◌||◌, if◌then◌else◌, not, List, [], ◌∷◌, Option, Some, None, Result, Ok, Err, IfOk, refl, sym, ap, ◌∙◌}
use Rattle.std.specs.BTreeSet.{BTreeSet, contains}
use Rattle.std.specs.FinMap.{keys, contains_key}
use Rattle.std.specs.Option.{option_or}
use Rattle.std.specs.Prelude.{ℕ, length, is_some, map}
use Rattle.term_core.specs.Order.{order_of_lists}
use Rattle.ets_answers.specs.At.{found_at, HoldsRows}
use Rattle.ets_answers.specs.inside.Held.{held_rule, held_target, held_walk, held_counter, held_item, held_pair, held_answer, held_written}
use Rattle.ets_store.specs.TableRows.{one_has_key}
use Rattle.ets_store.specs.Tables.{settings_in}
use Rattle.ets_store.specs.declared.table.Table.{Table}
use Rattle.ets_store.proofs.CellWrites.{are_present}
use Rattle.world_model.specs.Calls.{TableCall, Lookup, Member, LookupElement, First, Last, Next, Prev, ToList, InsertNew, Take, UpdateCounter, UpdateElement, GiveAway, Info, InfoAll, has_items, known_items}
use Rattle.world_model.specs.Cells.{AreAlive, Contents, Row, Rows}
use Rattle.world_model.specs.TableAccess.{access_rule_at}
use Rattle.world_model.specs.Names.{Name, Pid, Ref}
use Rattle.world_model.specs.Objects.{given, objects_rule, element_rule, element_answer, counter_rule, counter_answer, update_rule, keys_asked, unless_refused, one_present}
use Rattle.world_model.specs.Ownership.{gift_rule, target_rule}
use Rattle.world_model.specs.Rows.{Key, Object, tuples, parts_at, under, listed, some_if, all_objects}
use Rattle.world_model.specs.RowsLeft.{rows_written, unless_present, if_there}
use Rattle.world_model.specs.Signals.{first_of}
use Rattle.world_model.specs.TableLines.{table_line}
use Rattle.world_model.specs.Tables.{is_ordered}
use Rattle.world_model.specs.Terms.{atom, number, truth, tuple, list_of}
use Rattle.world_model.specs.Walks.{item_value, item_pair, key_or_end, last_key, walk_rule, key_after, key_before}
use Rattle.world_model.specs.declared.rule.Rule.{Rule}
use Rattle.world_model.specs.declared.rule.Rule.TheVariants.{NoKey}
use Rattle.world_model.specs.declared.table.Item.{Item}
use Rattle.world_model.specs.declared.table.Item.TheVariants as items
use Rattle.world_model.proofs.RowLaws.{listed_some}

-- what follows where a call resulted in something
pub if_ok : {A E : Type 0} {P Q : A → Type 0} (r : Result A E) → ((x : A) → P x → Q x) → IfOk r P → IfOk r Q
if_ok (Ok x) f is = f x is
if_ok (Err e) f is = is

-- ---- the rows under a key

pub row_held : (t : Table) (v : Contents) (ref : Ref) → HoldsRows t ref v → (key : Key) → v (Row ref key) ≡ under t.rows.rows key
row_held t v ref holds key = sym (ap listed (holds.row key) ∙ listed_some (v (Row ref key)))

has_some : (os : List Object) → is_some (some_if os) ≡ has_items os
has_some [] = refl
has_some (o ∷ os) = refl

key_held : (t : Table) (v : Contents) (ref : Ref) → HoldsRows t ref v → (key : Key) → has_items (under t.rows.rows key) ≡ contains_key (v (Rows ref)) key
key_held t v ref holds key = ap has_items (sym (row_held t v ref holds key)) ∙ sym (ap (λ all. contains_key all key) holds.rows ∙ ap is_some (holds.row key) ∙ has_some (v (Row ref key)))

-- ---- the rule

walk_held : (t : Table) (v : Contents) (ref : Ref) → HoldsRows t ref v → (key : Key) → held_walk t.rows.kind key t.rows.rows ≡ walk_rule t.rows.kind key (v (Rows ref))
walk_held t v ref holds key = ap (λ b. if is_ordered t.rows.kind || b then None else Some NoKey) (key_held t v ref holds key)

target_held : (t : Table) (living : BTreeSet (List ℕ)) (v : Contents) → AreAlive (contains order_of_lists living) v → (to : Option Pid) → held_target (settings_in t) (contains order_of_lists living) to ≡ target_rule v (settings_in t) to
target_held t living v alive None = refl
target_held t living v alive (Some to) = ap (gift_rule (settings_in t) to) (alive to)

pub rule_held : (t : Table) (living : BTreeSet (List ℕ)) (v : Contents) (p : Pid) (ref : Ref) → HoldsRows t ref v → AreAlive (contains order_of_lists living) v → (call : TableCall) → held_rule (settings_in t) t.rows.rows (contains order_of_lists living) call ≡ (table_line v p (found_at ref t) call).rule
rule_held t living v p ref holds alive (LookupElement key position) = ap (element_rule position) (sym (row_held t v ref holds key))
rule_held t living v p ref holds alive (Next key) = walk_held t v ref holds key
rule_held t living v p ref holds alive (Prev key) = walk_held t v ref holds key
rule_held t living v p ref holds alive (UpdateCounter key increment default) = ap (counter_rule (settings_in t) increment default) (sym (row_held t v ref holds key))
rule_held t living v p ref holds alive (UpdateElement key changes) = ap (update_rule (settings_in t) changes) (sym (row_held t v ref holds key))
rule_held t living v p ref holds alive (GiveAway to gift) = target_held t living v alive to
rule_held t living v p ref holds alive call = refl

-- the rule of a counter
pub counter_held : (t : Table) (v : Contents) (p : Pid) (ref : Ref) → HoldsRows t ref v → (call : TableCall) → (table_line v p (found_at ref t) call).rule ≡ None → held_counter (settings_in t) t.rows.rows call ≡ None
counter_held t v p ref holds (UpdateCounter key increment default) served = ap (counter_rule (settings_in t) increment default) (sym (row_held t v ref holds key)) ∙ served
counter_held t v p ref holds call served = refl

-- ---- the answer

item_held : (t : Table) (v : Contents) (ref : Ref) → HoldsRows t ref v → (item : Option Item) → held_item (settings_in t) t.rows.rows item ≡ item_value v (found_at ref t) item
item_held t v ref holds (Some items.Size) = ap (λ all. number (length (all_objects all))) (sym holds.rows)
item_held t v ref holds item = refl

each_item_held : (t : Table) (v : Contents) (ref : Ref) → HoldsRows t ref v → (item : Item) → held_item (settings_in t) t.rows.rows (Some item) ≡ item_value v (found_at ref t) (Some item)
each_item_held t v ref holds items.Size = ap (λ all. number (length (all_objects all))) (sym holds.rows)
each_item_held t v ref holds item = refl

pairs_held : (t : Table) (v : Contents) (ref : Ref) → HoldsRows t ref v → (xs : List (Name × Item)) → map (held_pair (settings_in t) t.rows.rows) xs ≡ map (item_pair v (found_at ref t)) xs
pairs_held t v ref holds [] = refl
pairs_held t v ref holds (x ∷ xs) = λ i. tuple (atom x.0 ∷ each_item_held t v ref holds x.1 i ∷ []) ∷ pairs_held t v ref holds xs i

-- an `insert_new/2` that is served asks for the keys of its objects
asked_by : (a : Option Rule) (r : Option Rule) (ks : List Key) → a ≡ None → r ≡ None → unless_refused (option_or a r) ks ≡ ks
asked_by None None ks e f = refl
asked_by (Some a) r ks e f = absurd cc
asked_by None (Some r) ks e f = absurd cc

pub keys_are_asked : (t : Table) (p : Pid) (ref : Ref) (objects : Option (List Object)) → access_rule_at p (found_at ref t) (InsertNew objects) ≡ None → objects_rule t.rows.position objects ≡ None → keys_asked p (found_at ref t) objects ≡ parts_at t.rows.position (given objects)
keys_are_asked t p ref objects allowed served = asked_by (access_rule_at p (found_at ref t) (InsertNew objects)) (objects_rule t.rows.position objects) (parts_at t.rows.position (given objects)) allowed served

-- and finds one of them where the rows have it
pub asked_present : (t : Table) (v : Contents) (p : Pid) (ref : Ref) → HoldsRows t ref v → (objects : Option (List Object)) → access_rule_at p (found_at ref t) (InsertNew objects) ≡ None → objects_rule t.rows.position objects ≡ None → one_has_key t.rows.position (given objects) t.rows.rows ≡ one_present v ref (keys_asked p (found_at ref t) objects)
asked_present t v p ref holds objects allowed served =
    ap (one_has_key t.rows.position (given objects)) (sym holds.rows)
    ∙ are_present ref t.rows.position (given objects) v (λ key. ap (λ all. under all key) holds.rows ∙ sym (row_held t v ref holds key))
    ∙ sym (ap (one_present v ref) (keys_are_asked t p ref objects allowed served))

pub answer_held : (t : Table) (v : Contents) (p : Pid) (ref : Ref) → HoldsRows t ref v → (call : TableCall) → access_rule_at p (found_at ref t) call ≡ None → (table_line v p (found_at ref t) call).rule ≡ None → held_answer (settings_in t) t.rows.rows call ≡ (table_line v p (found_at ref t) call).answer
answer_held t v p ref holds (Lookup key) allowed served = ap tuples (sym (row_held t v ref holds key))
answer_held t v p ref holds (Member key) allowed served = ap (λ os. truth (has_items os)) (sym (row_held t v ref holds key))
answer_held t v p ref holds (LookupElement key position) allowed served = ap (element_answer t.rows.kind position) (sym (row_held t v ref holds key))
answer_held t v p ref holds First allowed served = ap (λ all. key_or_end (first_of (keys all))) (sym holds.rows)
answer_held t v p ref holds Last allowed served = ap (λ all. key_or_end (last_key t.rows.kind all)) (sym holds.rows)
answer_held t v p ref holds (Next key) allowed served = ap (λ all. key_or_end (key_after key all)) (sym holds.rows)
answer_held t v p ref holds (Prev key) allowed served = ap (λ all. key_or_end (key_before t.rows.kind key all)) (sym holds.rows)
answer_held t v p ref holds ToList allowed served = ap (λ all. tuples (all_objects all)) (sym holds.rows)
answer_held t v p ref holds (InsertNew objects) allowed served = ap (λ b. truth (not b)) (asked_present t v p ref holds objects allowed served)
answer_held t v p ref holds (Take key) allowed served = ap tuples (sym (row_held t v ref holds key))
answer_held t v p ref holds (UpdateCounter key increment default) allowed served = ap (counter_answer (settings_in t) increment default) (sym (row_held t v ref holds key))
answer_held t v p ref holds (UpdateElement key changes) allowed served = ap (λ os. truth (has_items os)) (sym (row_held t v ref holds key))
answer_held t v p ref holds (Info item) allowed served = item_held t v ref holds item
answer_held t v p ref holds InfoAll allowed served = ap list_of (pairs_held t v ref holds known_items)
answer_held t v p ref holds call allowed served = refl

-- ---- the rows that it writes

pub written_held : (t : Table) (v : Contents) (p : Pid) (ref : Ref) → HoldsRows t ref v → (call : TableCall) → access_rule_at p (found_at ref t) call ≡ None → (table_line v p (found_at ref t) call).rule ≡ None → held_written (settings_in t) t.rows.rows call ≡ rows_written v p (found_at ref t) call
written_held t v p ref holds (InsertNew objects) allowed served = ap (λ b. unless_present b (parts_at t.rows.position (given objects))) (asked_present t v p ref holds objects allowed served)
written_held t v p ref holds (UpdateElement key changes) allowed served = ap (λ os. if_there os key) (sym (row_held t v ref holds key))
written_held t v p ref holds call allowed served = refl
