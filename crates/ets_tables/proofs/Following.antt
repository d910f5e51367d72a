-- What the shelves show after a change is what the contents have after it.
use Rattle.std.proofs.Common.{◌≡◌, ◌⊎◌, inl, inr, Bool, true, false, List, [], ◌∷◌, Option, Some, None, is_some, true≢false, if◌then◌else◌, refl, sym, ap, ◌∙◌}
use Rattle.std.specs.FinMap.{empty, get-empty}
use Rattle.std.specs.Prelude.{option_map}
use Rattle.term_core.specs.Order.{order_of_terms}
use Rattle.world_model.specs.Cells as cells
use Rattle.world_model.specs.Cells.{Contents}
use Rattle.world_model.specs.Changes.{after, changed, TableSet, OwnerSet, HeirSet, TableRemoved, RowsCleared, TableNameSet, TableNameCleared, OwnedAdded, OwnedRemoved, OwnedCleared, set_in_order, without_first}
use Rattle.world_model.specs.Names.{Name, Pid, Ref, same_name, same_pid, same_ref, order_of_refs}
use Rattle.world_model.specs.Rows.{Rows, Key, Object, under, listed}
use Rattle.world_model.specs.Tables as tables
use Rattle.world_model.specs.Tables.{Heir, owned_by, with_heir}
use Rattle.world_model.proofs.Meeting as meeting
use Rattle.proc_groups.proofs.Grouping.{same_either}
use Rattle.ets_store.specs.Tables.{settings_in}
use Rattle.ets_store.specs.declared.table.Table.{Table}
use Rattle.ets_tables.specs.Shelves.{AreSame, AreShelved, IsAltered, IsMeant, IsOwned, held_on, table_on, rows_of, rows_on, meant_on, owned_on}
use Rattle.ets_tables.specs.declared.shelves.Shelves.{Shelves}

pub still : (old new : Shelves) (v : Contents) → AreSame old new → AreShelved old v → AreShelved new v
still old new v same told = record {
  tables = λ u. same.tables u ∙ told.tables u;
  rows = λ u. same.rows u ∙ told.rows u;
  each_row = λ u key. ap (λ rows. under rows key) (same.rows u) ∙ told.each_row u key;
  names = λ name. same.names name ∙ told.names name;
  owned = λ p. same.owned p ∙ told.owned p;
}

pub same_then : (old mid new : Shelves) → AreSame old mid → AreSame mid new → AreSame old new
same_then old mid new first next = record {
  tables = λ u. next.tables u ∙ first.tables u;
  rows = λ u. next.rows u ∙ first.rows u;
  names = λ name. next.names name ∙ first.names name;
  owned = λ p. next.owned p ∙ first.owned p;
}

-- shelves that are lent are what they were, or a clone of it
pub same_shelves : (old now : Shelves) → (now ≡ old) ⊎ AreSame old now → AreSame old now
same_shelves old now (inl e) = record { tables = λ u. ap (λ s. table_on s u) e; rows = λ u. ap (λ s. rows_on s u) e; names = λ name. ap (λ s. meant_on s name) e; owned = λ p. ap (λ s. owned_on s p) e }
same_shelves old now (inr same) = same

-- ---- tables

-- a change of the table alone
table_follows : (old new : Shelves) (t : Ref) (f : Option tables.Table → Option tables.Table) (v w : Contents) → IsAltered t f (λ rows. rows) old new → AreShelved old v
    → ((u : Ref) → w (cells.Table u) ≡ (if same_ref t u then f (v (cells.Table u)) else v (cells.Table u)))
    → ((u : Ref) → w (cells.Rows u) ≡ v (cells.Rows u)) → ((u : Ref) (key : Key) → w (cells.Row u key) ≡ v (cells.Row u key))
    → ((name : Name) → w (cells.TableName name) ≡ v (cells.TableName name)) → ((p : Pid) → w (cells.Owned p) ≡ v (cells.Owned p)) → AreShelved new w
table_follows old new t f v w altered told at rows each_row names owned = record {
  tables = λ u. altered.tables u ∙ ap (λ o. if same_ref t u then f o else o) (told.tables u) ∙ sym (at u);
  rows = λ u. stays u ∙ told.rows u ∙ sym (rows u);
  each_row = λ u key. ap (λ r. under r key) (stays u) ∙ told.each_row u key ∙ sym (each_row u key);
  names = λ name. altered.names name ∙ told.names name ∙ sym (names name);
  owned = λ p. altered.owned p ∙ told.owned p ∙ sym (owned p);
} where
  stays : (u : Ref) → rows_on new u ≡ rows_on old u
  stays u = altered.rows u ∙ same_either (same_ref t u) (rows_on old u)

pub passes : (old new : Shelves) (t : Ref) (to : Pid) (v : Contents) → IsAltered t (option_map (owned_by to)) (λ rows. rows) old new → AreShelved old v → AreShelved new (changed (OwnerSet t to) v)
passes old new t to v altered told = table_follows old new t (option_map (owned_by to)) v (changed (OwnerSet t to) v) altered told (λ _. refl) (λ _. refl) (λ _ _. refl) (λ _. refl) (λ _. refl)

pub inherits : (old new : Shelves) (t : Ref) (heir : Heir) (v : Contents) → IsAltered t (option_map (with_heir heir)) (λ rows. rows) old new → AreShelved old v → AreShelved new (changed (HeirSet t heir) v)
inherits old new t heir v altered told = table_follows old new t (option_map (with_heir heir)) v (changed (HeirSet t heir) v) altered told (λ _. refl) (λ _. refl) (λ _ _. refl) (λ _. refl) (λ _. refl)

-- the same rows as before may be there again
same_rows : (old new : Shelves) (t : Ref) (table : tables.Table) (rows : Rows) → rows_on old t ≡ rows → IsAltered t (λ _. Some table) (λ _. rows) old new → IsAltered t (λ _. Some table) (λ there. there) old new
same_rows old new t table rows there altered = record {
  tables = altered.tables;
  rows = λ u. altered.rows u ∙ elim (same_ref t u) as (λ b. same_ref t u ≡ b → (if b then rows else rows_on old u) ≡ (if b then rows_on old u else rows_on old u)) [
    | true ↦ λ e. sym there ∙ ap (rows_on old) (meeting.refs_same t u e)
    | false ↦ λ e. refl
  ] refl;
  names = altered.names;
  owned = altered.owned;
}

pub makes : (old new : Shelves) (t : Ref) (table : tables.Table) (rows : Rows) (v : Contents) → rows_on old t ≡ rows → IsAltered t (λ _. Some table) (λ _. rows) old new → AreShelved old v → AreShelved new (changed (TableSet t table) v)
makes old new t table rows v there altered told =
    table_follows old new t (λ _. Some table) v (changed (TableSet t table) v) (same_rows old new t table rows there altered) told (λ _. refl) (λ _. refl) (λ _ _. refl) (λ _. refl) (λ _. refl)

-- where there is no table, there are no rows
no_rows : (o : Option Table) → option_map settings_in o ≡ None → rows_of o ≡ empty
no_rows None e = refl
no_rows (Some table) e = absurd (true≢false (ap is_some e))

pub none_shelved : (shelves : Shelves) (t : Ref) (v : Contents) → v (cells.Table t) ≡ None → AreShelved shelves v → rows_on shelves t ≡ empty
none_shelved shelves t v none told = no_rows (held_on shelves t) (told.tables t ∙ none)

none_under : (b : Bool) (r : Rows) (there : List Object) (key : Key) → under r key ≡ there → under (if b then empty else r) key ≡ (if b then [] else there)
none_under true r there key is = ap listed (get-empty order_of_terms key)
none_under false r there key is = is

pub goes : (old new : Shelves) (t : Ref) (v : Contents) → IsAltered t (λ _. None) (λ _. empty) old new → AreShelved old v → AreShelved new (after (TableRemoved t ∷ RowsCleared t ∷ []) v)
goes old new t v altered told = record {
  tables = λ u. altered.tables u ∙ ap (λ o. if same_ref t u then None else o) (told.tables u);
  rows = λ u. altered.rows u ∙ ap (λ r. if same_ref t u then empty else r) (told.rows u);
  each_row = λ u key. ap (λ r. under r key) (altered.rows u) ∙ none_under (same_ref t u) (rows_on old u) (v (cells.Row u key)) key (told.each_row u key);
  names = λ name. altered.names name ∙ told.names name;
  owned = λ p. altered.owned p ∙ told.owned p;
}

-- ---- names

name_follows : (old new : Shelves) (name : Name) (t : Option Ref) (v w : Contents) → IsMeant name t old new → AreShelved old v
    → ((u : Ref) → w (cells.Table u) ≡ v (cells.Table u)) → ((u : Ref) → w (cells.Rows u) ≡ v (cells.Rows u)) → ((u : Ref) (key : Key) → w (cells.Row u key) ≡ v (cells.Row u key))
    → ((other : Name) → w (cells.TableName other) ≡ (if same_name name other then t else v (cells.TableName other))) → ((p : Pid) → w (cells.Owned p) ≡ v (cells.Owned p)) → AreShelved new w
name_follows old new name t v w meant told at rows each_row names owned = record {
  tables = λ u. meant.tables u ∙ told.tables u ∙ sym (at u);
  rows = λ u. meant.rows u ∙ told.rows u ∙ sym (rows u);
  each_row = λ u key. ap (λ r. under r key) (meant.rows u) ∙ told.each_row u key ∙ sym (each_row u key);
  names = λ other. meant.names other ∙ ap (λ o. if same_name name other then t else o) (told.names other) ∙ sym (names other);
  owned = λ p. meant.owned p ∙ told.owned p ∙ sym (owned p);
}

pub means : (old new : Shelves) (name : Name) (t : Ref) (v : Contents) → IsMeant name (Some t) old new → AreShelved old v → AreShelved new (changed (TableNameSet name t) v)
means old new name t v meant told = name_follows old new name (Some t) v (changed (TableNameSet name t) v) meant told (λ _. refl) (λ _. refl) (λ _ _. refl) (λ _. refl) (λ _. refl)

pub frees : (old new : Shelves) (name : Name) (v : Contents) → IsMeant name None old new → AreShelved old v → AreShelved new (changed (TableNameCleared name) v)
frees old new name v meant told = name_follows old new name None v (changed (TableNameCleared name) v) meant told (λ _. refl) (λ _. refl) (λ _ _. refl) (λ _. refl) (λ _. refl)

-- ---- owners

owner_follows : (old new : Shelves) (p : Pid) (f : List Ref → List Ref) (v w : Contents) → IsOwned p f old new → AreShelved old v
    → ((u : Ref) → w (cells.Table u) ≡ v (cells.Table u)) → ((u : Ref) → w (cells.Rows u) ≡ v (cells.Rows u)) → ((u : Ref) (key : Key) → w (cells.Row u key) ≡ v (cells.Row u key))
    → ((name : Name) → w (cells.TableName name) ≡ v (cells.TableName name)) → ((q : Pid) → w (cells.Owned q) ≡ (if same_pid p q then f (v (cells.Owned q)) else v (cells.Owned q))) → AreShelved new w
owner_follows old new p f v w owned told at rows each_row names has = record {
  tables = λ u. owned.tables u ∙ told.tables u ∙ sym (at u);
  rows = λ u. owned.rows u ∙ told.rows u ∙ sym (rows u);
  each_row = λ u key. ap (λ r. under r key) (owned.rows u) ∙ told.each_row u key ∙ sym (each_row u key);
  names = λ name. owned.names name ∙ told.names name ∙ sym (names name);
  owned = λ q. owned.owned q ∙ ap (λ ts. if same_pid p q then f ts else ts) (told.owned q) ∙ sym (has q);
}

pub gains : (old new : Shelves) (p : Pid) (t : Ref) (v : Contents) → IsOwned p (set_in_order order_of_refs t) old new → AreShelved old v → AreShelved new (changed (OwnedAdded p t) v)
gains old new p t v owned told = owner_follows old new p (set_in_order order_of_refs t) v (changed (OwnedAdded p t) v) owned told (λ _. refl) (λ _. refl) (λ _ _. refl) (λ _. refl) (λ _. refl)

pub loses : (old new : Shelves) (p : Pid) (t : Ref) (v : Contents) → IsOwned p (without_first (same_ref t)) old new → AreShelved old v → AreShelved new (changed (OwnedRemoved p t) v)
loses old new p t v owned told = owner_follows old new p (without_first (same_ref t)) v (changed (OwnedRemoved p t) v) owned told (λ _. refl) (λ _. refl) (λ _ _. refl) (λ _. refl) (λ _. refl)

pub empties : (old new : Shelves) (p : Pid) (v : Contents) → IsOwned p (λ _. []) old new → AreShelved old v → AreShelved new (changed (OwnedCleared p) v)
empties old new p v owned told = owner_follows old new p (λ _. []) v (changed (OwnedCleared p) v) owned told (λ _. refl) (λ _. refl) (λ _ _. refl) (λ _. refl) (λ _. refl)
