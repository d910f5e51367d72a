-- The rows of a table as its calls find and leave them (ets manual, `insert/2`, `insert_new/2`, `delete_object/2`).
use Rattle.std.specs.Coded.{Coded, code_by, coded×, coded_ℕ}
use Rattle.std.specs.List.{list_any}
use Rattle.std.specs.Prelude.{ℕ, Bool, List, [], ◌∷◌, Option, Some, None, if◌then◌else◌, refl}
use Rattle.world_model.specs.Calls.{has_items}
use Rattle.world_model.specs.Rows.{Rows, Key, Object, RowChange, Stores, Removes, rows_rewritten, part_at, parts_at, under}
use Rattle.world_model.specs.contracts.table.Kind as kinds
use Rattle.world_model.specs.declared.table.Kind.{Kind}
use Rattle.ets_store.specs.inside.Shown.{coded_rows}

-- the rows of a table, with its kind and the position of its keys
pub record TableRows : Type 0 where
  pub kind : Kind
  pub position : ℕ
  pub rows : Rows

abbrev pub coded_table_rows : Coded TableRows
coded_table_rows = code_by (Kind × (ℕ × Rows)) (coded× kinds.the_row.coded (coded× coded_ℕ coded_rows)) (λ t. (t.kind, (t.position, t.rows))) (λ p. record { kind = p.0; position = p.1.0; rows = p.1.1 }) (λ _. refl)

-- the same table with these rows
abbrev pub with_rows : TableRows → Rows → TableRows
with_rows t rows = record t { rows = rows }

-- a change under the key that an object has
abbrev pub rewritten_at : Option Key → RowChange → Rows → Rows
rewritten_at None change rows = rows
rewritten_at (Some key) change rows = rows_rewritten key change rows

-- an object is put in under its key
abbrev pub with_object : Kind → ℕ → Object → Rows → Rows
with_object kind position object rows = rewritten_at (part_at position object) (Stores kind object) rows

-- and several, one after the other
abbrev pub with_objects : Kind → ℕ → List Object → Rows → Rows
with_objects kind position [] rows = rows
with_objects kind position (object ∷ objects) rows = with_objects kind position objects (with_object kind position object rows)

-- all instances of an object go
abbrev pub without_object : ℕ → Object → Rows → Rows
without_object position object rows = rewritten_at (part_at position object) (Removes object) rows

-- whether one of these objects has a key that is there
abbrev pub one_has_key : ℕ → List Object → Rows → Bool
one_has_key position objects rows = list_any (λ key. has_items (under rows key)) (parts_at position objects)

-- the objects are put in where none of their keys is there
abbrev pub with_new_objects : Kind → ℕ → List Object → Rows → Rows
with_new_objects kind position objects rows = if one_has_key position objects rows then rows else with_objects kind position objects rows
