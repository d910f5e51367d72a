-- One change of the rows of a table that was lent.
use Rattle.std.proofs.Common.{◌≡◌, ◌∷◌, [], Bool, Bor, true, false, Option, Some, None, is_some, if◌then◌else◌, true≢false, refl, sym, ap, ◌∙◌}
use Rattle.std.specs.FinMap.{empty, get, get-empty}
use Rattle.std.specs.Prelude.{option_copied, option_map, unwrap_or}
use Rattle.term_core.specs.Order.{order_of_terms}
use Rattle.world_model.specs.Cells as cells
use Rattle.world_model.specs.Cells.{Contents}
use Rattle.world_model.specs.Changes.{Change, RowsCleared, RowWritten, changed}
use Rattle.world_model.specs.Names.{Ref, same_ref}
use Rattle.world_model.specs.Rows.{Key, RowChange, Rows, listed, rows_rewritten, under}
use Rattle.world_model.specs.Tables as tables
use Rattle.world_model.proofs.Meeting.{refs_same, ref_itself}
use Rattle.ets_answers.proofs.Kept.{kept}
use Rattle.ets_rules.proofs.Holding.{hold_after, written_hold}
use Rattle.ets_rules.proofs.RowChanges.{wipe_keeps, write_keeps}
use Rattle.ets_rules.specs.Tables.{Hold}
use Rattle.ets_rules.specs.inside.Parts.{KeepsOthers}
use Rattle.ets_rules.specs.declared.tables.Tables.{Tables}
use Rattle.ets_store.specs.TableRows.{TableRows, with_rows}
use Rattle.ets_store.specs.Tables.{settings_in}
use Rattle.ets_store.specs.declared.table.Table.{Table}
use Rattle.ets_tables.specs.Lending.{IsWritten}
use Rattle.ets_tables.specs.Shelves.{rows_of}
use Rattle.ets_tables.specs.Tables.{held_at, table_at, rows_at}

-- a table that has settings is held
held_some : (o : Option Table) (settings : tables.Table) → option_map settings_in o ≡ Some settings → (table : Table) × (o ≡ Some table)
held_some None settings e = absurd (true≢false (sym (ap is_some e)))
held_some (Some table) settings e = (table, refl)

-- where none is got, none is held
pub not_held : (got : Option (Bor Table)) (o : Option Table) → is_some got ≡ false → option_copied got ≡ o → o ≡ None
not_held None o e is = sym is
not_held (Some table) o e is = absurd (true≢false e)

the_same : (s t : tables.Table) → Some s ≡ Some t → s ≡ t
the_same s t e = ap (λ o. unwrap_or o s) e

-- a table that is lent has the settings of its cell
pub lent_settings : (old : Tables) (v : Contents) (t : Ref) (settings : tables.Table) (lent : Table) → Some (settings_in lent) ≡ table_at old.registry t → v (cells.Table t) ≡ Some settings → Hold old v → settings_in lent ≡ settings
lent_settings old v t settings lent was there hold = the_same (settings_in lent) settings (was ∙ hold.are.tables t ∙ there)

-- it is left with the rows that a change leaves
rows_hold : (old new : Tables) (v : Contents) (t : Ref) (k : Change) (settings : tables.Table) (lent now : Table) → KeepsOthers t v (changed k v) → changed k v (cells.Rows t) ≡ now.rows.rows
    → Some (settings_in lent) ≡ table_at old.registry t → settings_in now ≡ settings_in lent → IsWritten t now old.registry new.registry → v (cells.Table t) ≡ Some settings → Hold old v → Hold new (changed k v)
rows_hold old new v t k settings lent now keeps is was same written there hold =
    let held = held_some (held_at old.registry t) settings (hold.are.tables t ∙ there) in
    hold_after old new (k ∷ []) v hold
    (written_hold old.registry new.registry v (changed k v) t held.0 now hold.are held.1 written (same ∙ the_same (settings_in lent) (settings_in held.0) (was ∙ ap (option_map settings_in) held.1))
    (record { rows = is; row = λ key. ap (λ r. get r key) (sym is) ∙ kept t (k ∷ []) v (hold.by_key t) key }) keeps)

-- the cell of its own rows is met
met : {A : Type 0} (b : Bool) (x y : A) → b ≡ true → (if b then x else y) ≡ x
met true x y e = refl
met false x y e = absurd (true≢false (sym e))

pub write_holds : (old new : Tables) (v : Contents) (t : Ref) (key : Key) (change : RowChange) (settings : tables.Table) (lent : Table) (rows : TableRows) → rows ≡ with_rows lent.rows (rows_rewritten key change lent.rows.rows)
    → Some (settings_in lent) ≡ table_at old.registry t → lent.rows.rows ≡ rows_at old.registry t → IsWritten t (record lent { rows = rows }) old.registry new.registry → v (cells.Table t) ≡ Some settings → Hold old v → Hold new (changed (RowWritten t key change) v)
write_holds old new v t key change settings lent rows is was there written found hold =
    rows_hold old new v t (RowWritten t key change) settings lent (record lent { rows = rows }) (write_keeps t key change v)
    (met (same_ref t t) _ _ (ref_itself t) ∙ ap (rows_rewritten key change) (sym (there ∙ hold.are.rows t)) ∙ sym (ap (λ (r : TableRows). r.rows) is))
    was (ap (λ (r : TableRows). settings_in (record lent { rows = r })) is) written found hold

pub wipe_holds : (old new : Tables) (v : Contents) (t : Ref) (settings : tables.Table) (lent : Table) (rows : TableRows) → rows ≡ with_rows lent.rows empty
    → Some (settings_in lent) ≡ table_at old.registry t → IsWritten t (record lent { rows = rows }) old.registry new.registry → v (cells.Table t) ≡ Some settings → Hold old v → Hold new (changed (RowsCleared t) v)
wipe_holds old new v t settings lent rows is was written found hold =
    rows_hold old new v t (RowsCleared t) settings lent (record lent { rows = rows }) (wipe_keeps t v)
    (met (same_ref t t) _ _ (ref_itself t) ∙ sym (ap (λ (r : TableRows). r.rows) is))
    was (ap (λ (r : TableRows). settings_in (record lent { rows = r })) is) written found hold

-- where there is no table, there are no rows to go
none_left : (b : Bool) (rows : Rows) → (b ≡ true → rows ≡ empty) → rows ≡ (if b then empty else rows)
none_left true rows none = none refl
none_left false rows none = refl

none_under : (b : Bool) (rows : Rows) (key : Key) → (b ≡ true → rows ≡ empty) → under rows key ≡ (if b then [] else under rows key)
none_under true rows key none = ap (λ r. under r key) (none refl) ∙ ap listed (get-empty order_of_terms key)
none_under false rows key none = refl

pub none_wiped : (old : Tables) (v : Contents) (t : Ref) → held_at old.registry t ≡ None → Hold old v → Hold old (changed (RowsCleared t) v)
none_wiped old v t none hold = hold_after old old (RowsCleared t ∷ []) v hold record {
  tables = hold.are.tables;
  rows = λ u. none_left (same_ref t u) (rows_at old.registry u) (λ e. no_rows u e) ∙ ap (λ r. if same_ref t u then empty else r) (hold.are.rows u);
  each_row = λ u key. none_under (same_ref t u) (rows_at old.registry u) key (λ e. no_rows u e) ∙ ap (λ os. if same_ref t u then [] else os) (hold.are.each_row u key);
  names = hold.are.names;
  owned = hold.are.owned;
} where
  no_rows : (u : Ref) → same_ref t u ≡ true → rows_at old.registry u ≡ empty
  no_rows u e = ap (rows_at old.registry) (sym (refs_same t u e)) ∙ ap rows_of none

-- where the table is missing, no rows of it are written
pub none_there : {A : Type 0} (old : Tables) (v : Contents) (t : Ref) (settings : tables.Table) → held_at old.registry t ≡ None → v (cells.Table t) ≡ Some settings → Hold old v → A
none_there old v t settings none there hold = absurd (true≢false (sym (ap is_some (sym (ap (option_map settings_in) none) ∙ hold.are.tables t ∙ there))))
