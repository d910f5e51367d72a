-- What a table that is lent leaves.
use Rattle.std.proofs.Common.{◌≡◌, ◌⊎◌, inl, inr, Option, Result, Ok, Err, OnErr, IfOk, if◌then◌else◌, ap, ◌∙◌}
use Rattle.world_model.specs.Names.{Ref, same_ref}
use Rattle.world_model.specs.Rows.{Rows}
use Rattle.world_model.specs.Tables as tables
use Rattle.ets_store.specs.Tables.{settings_in, IsSameTable}
use Rattle.ets_store.specs.declared.table.Table.{Table}
use Rattle.ets_tables.specs.Shelves.{AreSame, IsAltered}
use Rattle.ets_tables.specs.declared.shelves.Shelves.{Shelves}

pub on_err_map : {T E P Q : Type 0} (r : Result T E) → (P → Q) → OnErr r P → OnErr r Q
on_err_map (Ok x) f p = tt
on_err_map (Err e) f p = f p

pub if_ok_map : {T E : Type 0} (P Q : T → Type 0) (r : Result T E) → ((x : T) → P x → Q x) → IfOk r P → IfOk r Q
if_ok_map P Q (Ok x) f p = f x p
if_ok_map P Q (Err e) f p = p

-- a table that is lent is what it was, or a clone of it
pub same_settings : (old now : Table) → (now ≡ old) ⊎ IsSameTable old now → settings_in now ≡ settings_in old
same_settings old now (inl e) = ap settings_in e
same_settings old now (inr same) = same.settings

pub same_rows_in : (old now : Table) → (now ≡ old) ⊎ IsSameTable old now → now.rows ≡ old.rows
same_rows_in old now (inl e) = ap (λ t. t.rows) e
same_rows_in old now (inr same) = same.rows

pub altered_since : (old lent new : Shelves) (t : Ref) (f : Option tables.Table → Option tables.Table) (g : Rows → Rows) → AreSame old lent → IsAltered t f g lent new → IsAltered t f g old new
altered_since old lent new t f g same altered = record {
  tables = λ u. altered.tables u ∙ ap (λ o. if same_ref t u then f o else o) (same.tables u);
  rows = λ u. altered.rows u ∙ ap (λ r. if same_ref t u then g r else r) (same.rows u);
  names = λ name. altered.names name ∙ same.names name;
  owned = λ p. altered.owned p ∙ same.owned p;
}
