-- A table that is held, as the calls of the explored world find it.
use Rattle.std.specs.FinMap.{get}
use Rattle.std.specs.Prelude.{◌≡◌, Option, None}
use Rattle.term_core.specs.Meaning.{Meaning}
use Rattle.ets_store.specs.Tables.{settings_in}
use Rattle.ets_store.specs.declared.table.Table.{Table}
use Rattle.world_model.specs.Calls.{Increment, TableCall}
use Rattle.world_model.specs.Cells.{Contents, Row, Rows}
use Rattle.world_model.specs.TableAccess.{Found, access_rule_at}
use Rattle.world_model.specs.TableLines.{Line, table_line}
use Rattle.world_model.specs.Names.{Pid, Ref}
use Rattle.world_model.specs.Objects.{counter_rule, counter_answer, counter_object}
use Rattle.world_model.specs.RowFootprints.{Touch}
use Rattle.world_model.specs.Rows.{Key, Object, some_if, under}
use Rattle.world_model.specs.RowsLeft.{rows_written}

-- the table as it is found by its reference
abbrev pub found_at : Ref → Table → Found
found_at ref t = record { ref = ref; table = settings_in t }

-- the cells of its rows contain what the table holds, and it holds no key without objects
pub record HoldsRows (t : Table) (ref : Ref) (v : Contents) : Type 0 where
  pub rows : v (Rows ref) ≡ t.rows.rows
  pub row : (key : Key) → get t.rows.rows key ≡ some_if (v (Row ref key))

-- this is so of the line of a call at a table that is found, where the call is served: its process has access, and no rule refuses its arguments
abbrev pub WhereServed : Contents → Pid → Found → TableCall → (Line → Type 0) → Type 0
WhereServed v p f call IsSo = access_rule_at p f call ≡ None → (table_line v p f call).rule ≡ None → IsSo (table_line v p f call)

-- ---- at a table that is held, whatever contents have its rows, whoever calls, and under whatever reference

-- a call that is served has this answer
abbrev pub IsAnswerAt : Table → TableCall → Meaning → Type 0
IsAnswerAt t call answer = (v : Contents) (p : Pid) (ref : Ref) → HoldsRows t ref v → WhereServed v p (found_at ref t) call (λ l. answer ≡ l.answer)

-- a counter that is not refused answers this, and leaves this object under its key
abbrev pub IsCountedAt : Table → Key → Increment → Option (Option Object) → Meaning → Object → Type 0
IsCountedAt t key increment default answer object =
    let there = under t.rows.rows key in
    counter_rule (settings_in t) increment default there ≡ None
    → (answer ≡ counter_answer (settings_in t) increment default there) × (object ≡ counter_object (settings_in t) key increment default there)

-- these are the rows that it writes
abbrev pub AreWrittenAt : Table → TableCall → Touch → Type 0
AreWrittenAt t call touch = (v : Contents) (p : Pid) (ref : Ref) → HoldsRows t ref v → WhereServed v p (found_at ref t) call (λ l. touch ≡ rows_written v p (found_at ref t) call)
