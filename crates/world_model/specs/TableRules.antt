-- How a call of a table is judged (ets manual): by one rule, the first that fails.
use Rattle.std.specs.Option.{option_or}
use Rattle.std.specs.Prelude.{Option, ◌++◌, if◌then◌else◌, ◌∷◌, Bool, false, true, option_map, None, codes, [], Some, List}
use Rattle.world_model.specs.Calls.{TableCall, GiveAway, TableArgument}
use Rattle.world_model.specs.Cells.{Cell, Contents, Alive}
use Rattle.world_model.specs.Events.{Refusal, ByRule}
use Rattle.world_model.specs.TableAccess.{Found, rule_of_none, class_of, access_rule_at, find, is_table_argument, reads_of_find}
use Rattle.world_model.specs.Names.{Pid}
use Rattle.world_model.specs.ProcessLines.{CallLine, serves_unless}
use Rattle.world_model.specs.TableLines as lines
use Rattle.world_model.specs.TableLines.{unless, table_line, rows_read}
use Rattle.world_model.specs.Terms.{atom}
use Rattle.world_model.specs.RowFootprints.{cells_of}
use Rattle.world_model.specs.declared.rule.Rule.{Rule}
use Rattle.world_model.specs.declared.rule.Rule.TheVariants.{BadTable, NoTable, BadName, BadOption, NameTaken}

-- ---- what a refusal says

-- whether a refusal reports the owner: not where the table, the name or the options are at fault
abbrev pub tells_owner : Rule → Bool
tells_owner BadTable = false
tells_owner NoTable = false
tells_owner BadName = false
tells_owner BadOption = false
tells_owner NameTaken = false
tells_owner rule = true

abbrev pub told_owner : Rule → Option Found → Option Pid
told_owner rule found = if tells_owner rule then option_map (λ f. f.table.owner) found else None

abbrev pub refusal_by : Option Found → Rule → Refusal
refusal_by found rule = ByRule rule (told_owner rule found)

-- ---- with what is found or not

-- first who may call, then the arguments
abbrev pub found_line : Contents → Pid → TableCall → Option Found → lines.Line
found_line v p call None = unless (rule_of_none (class_of call)) (atom (codes "undefined")) []
found_line v p call (Some f) = unless (option_or (access_rule_at p f call) (table_line v p f call).rule) (table_line v p f call).answer (table_line v p f call).changes

abbrev pub rows_of_found : Pid → TableCall → Option Found → List Cell
rows_of_found p call None = []
rows_of_found p call (Some f) = cells_of f.ref (rows_read p f call)

-- the target of a give_away is looked at whatever is found
abbrev pub target_read : TableCall → List Cell
target_read (GiveAway (Some to) gift) = Alive to ∷ []
target_read call = []

-- ---- the one rule, the first in order: the table argument, what it finds, who may call, and then the other arguments

abbrev pub table_rule : Contents → Pid → TableArgument → TableCall → Option Rule
table_rule v p argument call = if is_table_argument argument then (found_line v p call (find v argument)).rule else Some BadTable

abbrev pub table_reads : Contents → Pid → TableArgument → TableCall → List Cell
table_reads v p argument call = target_read call ++ (reads_of_find v argument ++ rows_of_found p call (find v argument))

abbrev pub on_table_line : Contents → Pid → TableArgument → TableCall → CallLine
on_table_line v p argument call = serves_unless (option_map (refusal_by (find v argument)) (table_rule v p argument call)) (table_reads v p argument call) (found_line v p call (find v argument)).answer (found_line v p call (find v argument)).changes
