-- What the line of a counter is, by what a table holds.
use Rattle.std.proofs.Common.{◌≡◌, [], ◌∷◌, ◌++◌, List, Option, None, sym, ap, ◌∙◌}
use Rattle.std.proofs.lemmas.List.{append-nil}
use Rattle.ets_answers.proofs.Lines.{row_held}
use Rattle.ets_answers.specs.At.{HoldsRows, IsCountedAt, found_at}
use Rattle.ets_rules.specs.Changes.{all_changes_of_tables}
use Rattle.ets_rules.specs.Plans.{planned_by}
use Rattle.ets_rules.specs.declared.changes.Changes.{Changes}
use Rattle.ets_rules.specs.inside.Planned.{Adds}
use Rattle.ets_store.specs.Tables.{settings_in}
use Rattle.ets_store.specs.declared.table.Table.{Table}
use Rattle.term_core.specs.Meaning.{Meaning}
use Rattle.world_model.specs.Calls.{Increment, UpdateCounter}
use Rattle.world_model.specs.Cells.{Contents}
use Rattle.world_model.specs.Changes.{Change, RowWritten}
use Rattle.world_model.specs.Names.{Pid, Ref}
use Rattle.world_model.specs.Objects.{counter_answer, counter_object, counter_rule}
use Rattle.world_model.specs.Rows.{Key, Object, Stores, under}
use Rattle.world_model.specs.TableLines.{table_line}

allowed_held : (t : Table) (key : Key) (increment : Increment) (default : Option (Option Object)) (v : Contents) (p : Pid) (ref : Ref) → HoldsRows t ref v
    → (table_line v p (found_at ref t) (UpdateCounter key increment default)).rule ≡ None → counter_rule (settings_in t) increment default (under t.rows.rows key) ≡ None
allowed_held t key increment default v p ref holds served = ap (counter_rule (settings_in t) increment default) (sym (row_held t v ref holds key)) ∙ served

pub counted_answer : (t : Table) (key : Key) (increment : Increment) (default : Option (Option Object)) (answer : Meaning) (object : Object) → IsCountedAt t key increment default answer object
    → (v : Contents) (p : Pid) (ref : Ref) → HoldsRows t ref v → (table_line v p (found_at ref t) (UpdateCounter key increment default)).rule ≡ None → answer ≡ (table_line v p (found_at ref t) (UpdateCounter key increment default)).answer
counted_answer t key increment default answer object is v p ref holds served =
    (is (allowed_held t key increment default v p ref holds served)).0 ∙ ap (counter_answer (settings_in t) increment default) (sym (row_held t v ref holds key))

pub counted_changes : (t : Table) (key : Key) (increment : Increment) (default : Option (Option Object)) (answer : Meaning) (object : Object) → IsCountedAt t key increment default answer object
    → (v : Contents) (p : Pid) (ref : Ref) → HoldsRows t ref v → (table_line v p (found_at ref t) (UpdateCounter key increment default)).rule ≡ None
    → RowWritten ref key (Stores t.rows.kind object) ∷ [] ≡ (table_line v p (found_at ref t) (UpdateCounter key increment default)).changes
counted_changes t key increment default answer object is v p ref holds served =
    ap (λ o. RowWritten ref key (Stores t.rows.kind o) ∷ []) ((is (allowed_held t key increment default v p ref holds served)).1 ∙ ap (counter_object (settings_in t) key increment default) (sym (row_held t v ref holds key)))

-- changes of rows that nothing comes before, and without a message
pub planned_alone : (p : Pid) (ks : List Change) (old new : Changes) → all_changes_of_tables old.list.items ≡ [] → Adds ks old new → planned_by p new.list.items None ≡ ks
planned_alone p ks old new none adds = append-nil (all_changes_of_tables new.list.items) ∙ adds.more ∙ ap (λ ls. ls ++ ks) none
