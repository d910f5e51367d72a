-- What histories say of each table: what it is, and its rows, after every event.
use Rattle.std.specs.Prelude.{◌∷◌, ◌≡◌, if◌then◌else◌, Option, List, None, Some}
use Rattle.term_core.specs.declared.step.Step.{Step}
use Rattle.term_core.specs.declared.step.Step.TheVariants.{Turn}
use Rattle.world_model.specs.Calls.{TableCall, Call, New, OnTable, call_of}
use Rattle.world_model.specs.Events.{History, Deed, Served, Event}
use Rattle.world_model.specs.TableAccess.{Found}
use Rattle.world_model.specs.Names.{Ref, Pid, Name, same_ref}
use Rattle.world_model.specs.OwnershipLaws.{table_left, has_table, table_passed, next_owner, row_passed}
use Rattle.world_model.specs.ProcessLines.{next_ref}
use Rattle.world_model.specs.Rows.{Key, Object}
use Rattle.world_model.specs.RowsLeft.{rows_left}
use Rattle.world_model.specs.Tables as tables
use Rattle.world_model.specs.Tables.{table_of, TableOption}
use Rattle.world_model.specs.ProcessHistory.{ended_by}
use Rattle.world_model.specs.World.{table, rows, contents, found}

-- ---- the table itself: a served `new/2` makes it, a served call of it leaves what its line says, and every other call leaves it as it was

abbrev pub table_of_new : Ref → Pid → Name → Option (List TableOption) → Ref → Option tables.Table → Option tables.Table
table_of_new u p name None t there = there
table_of_new u p name (Some os) t there = if same_ref u t then Some (table_of p name os) else there

abbrev pub table_of_call : Option Found → TableCall → Ref → Option tables.Table → Option tables.Table
table_of_call None call t there = there
table_of_call (Some f) call t there = if same_ref f.ref t then table_left call there else there

abbrev pub table_by_call : History → Pid → Call → Ref → Option tables.Table → Option tables.Table
table_by_call h p (New (Some name) options) t there = table_of_new (next_ref (contents h) p) p name options t there
table_by_call h p (OnTable argument call) t there = table_of_call (found h argument) call t there
table_by_call h p call t there = there

abbrev pub table_in : History → Step → Deed → Ref → Option tables.Table → Option tables.Table
table_in h (Turn p) (Served kind arguments answer) t there = table_by_call h p (call_of kind arguments) t there
table_in h step deed t there = there

-- and where an event ends a process, however it does: each of its tables goes to its heir, or is destroyed
abbrev pub passed_at_end : History → Option Pid → Ref → Option tables.Table → Option tables.Table
passed_at_end h None t there = there
passed_at_end h (Some p) t there = if has_table h p t then table_passed (next_owner h p t) there else there

abbrev pub TableIsTold : Type 0
TableIsTold = (h : History) (e : Event) (t : Ref) → table (e ∷ h) t ≡ passed_at_end h (ended_by e) t (table_in h e.step e.deed t (table h t))

-- ---- its rows: only served calls of it change them, and its destruction

abbrev pub rows_of_call : History → Pid → Option Found → TableCall → Ref → Key → List Object → List Object
rows_of_call h p None call t key there = there
rows_of_call h p (Some f) call t key there = if same_ref f.ref t then rows_left (contents h) p f call key there else there

abbrev pub rows_by_call : History → Pid → Call → Ref → Key → List Object → List Object
rows_by_call h p (OnTable argument call) t key there = rows_of_call h p (found h argument) call t key there
rows_by_call h p call t key there = there

abbrev pub rows_in_event : History → Step → Deed → Ref → Key → List Object → List Object
rows_in_event h (Turn p) (Served kind arguments answer) t key there = rows_by_call h p (call_of kind arguments) t key there
rows_in_event h step deed t key there = there

abbrev pub rows_at_end : History → Option Pid → Ref → List Object → List Object
rows_at_end h None t there = there
rows_at_end h (Some p) t there = if has_table h p t then row_passed (next_owner h p t) there else there

abbrev pub RowsAreTold : Type 0
RowsAreTold = (h : History) (e : Event) (t : Ref) (key : Key) → rows (e ∷ h) t key ≡ rows_at_end h (ended_by e) t (rows_in_event h e.step e.deed t key (rows h t key))
