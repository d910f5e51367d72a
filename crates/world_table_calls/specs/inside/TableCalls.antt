-- What calls of tables come to, and what they plan.
use Rattle.std.specs.Prelude.{◌≡◌, [], None, Option}
use Rattle.core_tree.specs.Syntax.{ModuleTree}
use Rattle.ets_rules.specs.Tables.{IsFoundBy}
use Rattle.ets_rules.specs.declared.found.FoundTable.{FoundTable}
use Rattle.world_model.specs.Calls.{Call, OnTable, TableArgument, TableCall}
use Rattle.world_model.specs.Cells.{Contents}
use Rattle.world_model.specs.Lines.{line}
use Rattle.world_model.specs.Names.{Pid}
use Rattle.world_model.specs.TableAccess.{find}
use Rattle.world_model.specs.TableLines.{Line}
use Rattle.world_model.specs.TableRules.{found_line, table_rule}
use Rattle.world_records.specs.Records.{Agrees}
use Rattle.world_records.specs.declared.records.Records.{Records}
use Rattle.world_planned.specs.inside.Planned.{Adds}
use Rattle.world_planned.specs.inside.PlannedCalls.{IsReply, changes_of_reply}
use Rattle.world_planned.specs.declared.planned.Planned.{Planned}
use Rattle.world_planned.specs.declared.reply.Reply.{Reply}

-- this is so of the line of a call at what is found, if anything, whoever calls and by whatever argument it is found, where no rule refuses the call
abbrev pub OfFoundLine : Option FoundTable → TableCall → (Line → Type 0) → Type 0
OfFoundLine found call IsSo = (v : Contents) (p : Pid) (argument : TableArgument) → IsFoundBy v argument found → table_rule v p argument call ≡ None → IsSo (found_line v p call (find v argument))

-- this is so of all contents that the records agree with, where the argument finds this
abbrev pub WhereFound : Records → TableArgument → Option FoundTable → (Contents → Type 0) → Type 0
WhereFound records argument found IsSo = (m : ModuleTree) (v : Contents) → Agrees m records v → IsFoundBy v argument found → IsSo v

-- a call has this reply, unless its line refuses it
abbrev pub RepliesUnlessRefused : Records → Pid → Call → Reply → Type 0
RepliesUnlessRefused records p call reply = (m : ModuleTree) (v : Contents) → Agrees m records v → (line v p call).refusal ≡ None → IsReply v p call reply

-- what a call with a table argument and this reply changes is planned
abbrev pub PlansOnTable : Contents → Pid → TableArgument → TableCall → Reply → Planned → Planned → Type 0
PlansOnTable v p argument call reply old new = Adds [] (changes_of_reply v p (OnTable argument call) reply) old new
