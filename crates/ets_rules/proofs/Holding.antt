-- Tables that are held, as the calls find them.
use Rattle.std.proofs.Common.{◌≡◌, Bool, true, false, Option, Some, None, is_some, if◌then◌else◌, true≢false, refl, sym, ap, ◌∙◌}
use Rattle.std.specs.FinMap.{get}
use Rattle.std.specs.Option.{option_or}
use Rattle.std.specs.Prelude.{List, option_map}
use Rattle.world_model.specs.Calls.{TableArgument, ByName, ByReference, ByNothing, TableCall}
use Rattle.world_model.specs.Cells as cells
use Rattle.world_model.specs.Cells.{Contents}
use Rattle.world_model.specs.TableAccess.{Found, find, access_rule_at}
use Rattle.world_model.specs.TableRules.{found_line, table_rule}
use Rattle.world_model.specs.Names.{Pid, Ref, same_ref}
use Rattle.world_model.specs.Changes.{Change, after}
use Rattle.world_model.specs.Rows.{Key, Rows, under, listed}
use Rattle.world_model.specs.TableLines.{table_line}
use Rattle.world_model.specs.declared.rule.Rule.{Rule}
use Rattle.world_model.proofs.Meeting.{refs_same}
use Rattle.ets_answers.specs.At.{HoldsRows}
use Rattle.ets_answers.proofs.Kept.{kept}
use Rattle.world_model.proofs.RowLaws.{listed_some}
use Rattle.ets_rules.specs.Tables.{Hold}
use Rattle.ets_rules.specs.inside.Parts.{KeepsOthers}
use Rattle.ets_store.specs.Tables.{settings_in}
use Rattle.ets_store.specs.declared.table.Table.{Table}
use Rattle.ets_tables.specs.Lending.{IsWritten}
use Rattle.ets_tables.specs.Shelves.{rows_of}
use Rattle.ets_tables.specs.Tables.{AreTables, held_at}
use Rattle.ets_tables.specs.declared.registry.Registry.{Registry}
use Rattle.ets_rules.specs.declared.tables.Tables.{Tables}

-- the rows of a table that is held are those of its cells
pub holds_rows : (tables : Tables) (v : Contents) (t : Ref) (table : Table) → Hold tables v → held_at tables.registry t ≡ Some table → HoldsRows table t v
holds_rows tables v t table hold held = record {
  rows = sym (hold.are.rows t) ∙ ap rows_of held;
  row = λ key. ap (λ rows. get rows key) (sym (ap rows_of held) ∙ hold.are.rows t) ∙ hold.by_key t key;
}

-- the rule at a table that is found is the rule of the call
pub judged : (v : Contents) (p : Pid) (argument : TableArgument) (call : TableCall) (f : Found) (rule : Option Rule) → Some f ≡ find v argument → rule ≡ (found_line v p call (Some f)).rule → rule ≡ table_rule v p argument call
judged v p (ByName name) call f rule found is = is ∙ ap (λ o. (found_line v p call o).rule) found
judged v p (ByReference t) call f rule found is = is ∙ ap (λ o. (found_line v p call o).rule) found
judged v p ByNothing call f rule found is = absurd (true≢false (ap is_some found))

or_none : {A : Type 0} (a b : Option A) → option_or a b ≡ None → (a ≡ None) × (b ≡ None)
or_none None b e = (refl, e)
or_none (Some x) b e = absurd (true≢false (ap is_some e))

-- where no rule refuses a call, neither who calls nor its arguments are at fault
pub served_at : (v : Contents) (p : Pid) (argument : TableArgument) (call : TableCall) (f : Found) → Some f ≡ find v argument → table_rule v p argument call ≡ None → (access_rule_at p f call ≡ None) × ((table_line v p f call).rule ≡ None)
served_at v p argument call f found none = or_none (access_rule_at p f call) (table_line v p f call).rule (judged v p argument call f (found_line v p call (Some f)).rule found refl ∙ none)

-- rows stay those under their keys, whatever changes
pub hold_after : (old new : Tables) (ks : List Change) (v : Contents) → Hold old v → AreTables new.registry (after ks v) → Hold new (after ks v)
hold_after old new ks v hold tables = record { are = tables; by_key = λ t. kept t ks v (hold.by_key t) }

either : {A : Type 0} (b : Bool) (x y z : A) → (b ≡ true → z ≡ x) → (b ≡ false → z ≡ y) → (if b then x else y) ≡ z
either true x y z here there = sym (here refl)
either false x y z here there = sym (there refl)

-- where the rows of a table were written, and all else was kept
pub written_hold : (old new : Registry) (v w : Contents) (t : Ref) (was now : Table) → AreTables old v → held_at old t ≡ Some was → IsWritten t now old new → settings_in now ≡ settings_in was
    → HoldsRows now t w → KeepsOthers t v w → AreTables new w
written_hold old new v w t was now tables held written same holds keeps = record {
  tables = λ u. written.tables u ∙ either (same_ref t u) _ _ (w (cells.Table u)) (λ e. settled u e) (λ e. keeps.tables u ∙ sym (tables.tables u));
  rows = λ u. written.rows u ∙ either (same_ref t u) _ _ (w (cells.Rows u)) (λ e. ap (λ r. w (cells.Rows r)) (sym (refs_same t u e)) ∙ holds.rows) (λ e. keeps.rows u e ∙ sym (tables.rows u));
  each_row = λ u key. ap (λ rows. under rows key) (written.rows u) ∙ if_under (same_ref t u) _ _ key ∙ either (same_ref t u) _ _ (w (cells.Row u key)) (λ e. ap (λ r. w (cells.Row r key)) (sym (refs_same t u e)) ∙ each key) (λ e. keeps.each_row u key e ∙ sym (tables.each_row u key));
  names = λ name. written.names name ∙ tables.names name ∙ sym (keeps.names name);
  owned = λ p. written.owned p ∙ tables.owned p ∙ sym (keeps.owned p);
} where
  each : (key : Key) → w (cells.Row t key) ≡ under now.rows.rows key
  each key = sym (ap listed (holds.row key) ∙ listed_some (w (cells.Row t key)))

  settled : (u : Ref) → same_ref t u ≡ true → w (cells.Table u) ≡ Some (settings_in now)
  settled u e = keeps.tables u ∙ ap (λ r. v (cells.Table r)) (sym (refs_same t u e)) ∙ sym (tables.tables t) ∙ ap (option_map settings_in) held ∙ ap Some (sym same)

  if_under : (b : Bool) (x y : Rows) (key : Key) → under (if b then x else y) key ≡ (if b then under x key else under y key)
  if_under true x y key = refl
  if_under false x y key = refl
