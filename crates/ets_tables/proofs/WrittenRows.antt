-- Where only the rows of a lent table were written.
use Rattle.std.proofs.Common.{◌≡◌, Bool, true, false, Some, if◌then◌else◌, refl, sym, ap, ◌∙◌}
use Rattle.world_model.specs.Names.{same_ref}
use Rattle.world_model.specs.Rows.{Rows, under}
use Rattle.world_model.proofs.Meeting as meeting
use Rattle.ets_store.specs.Tables.{settings_in}
use Rattle.ets_tables.specs.Shelves.{table_on, rows_on}
use Rattle.ets_tables.specs.TableLaws.{AreWritten}

under_if : {X : Type 0} (f : Rows → X) (b : Bool) (r s : Rows) → f (if b then r else s) ≡ (if b then f r else f s)
under_if f true r s = refl
under_if f false r s = refl

pub are_written : AreWritten
are_written old new t table v w altered same told differs = record {
  tables = λ u. altered.tables u ∙ elim (same_ref t u) as (λ b. same_ref t u ≡ b → (if b then Some (settings_in table) else table_on old.shelves.value u) ≡ table_on old.shelves.value u) [
    | true ↦ λ e. same ∙ ap (table_on old.shelves.value) (meeting.refs_same t u e)
    | false ↦ λ e. refl
  ] refl ∙ told.tables u ∙ sym (differs.tables u);
  rows = λ u. altered.rows u ∙ ap (λ r. if same_ref t u then table.rows.rows else r) (told.rows u) ∙ sym (differs.rows_there u);
  each_row = λ u key. ap (λ r. under r key) (altered.rows u) ∙ under_if (λ r. under r key) (same_ref t u) table.rows.rows (rows_on old.shelves.value u)
      ∙ ap (λ os. if same_ref t u then under table.rows.rows key else os) (told.each_row u key) ∙ sym (differs.each_row u key);
  names = λ name. altered.names name ∙ told.names name ∙ sym (differs.names name);
  owned = λ p. altered.owned p ∙ told.owned p ∙ sym (differs.owned p);
}
