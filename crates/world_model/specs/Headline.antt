-- The calls of tables in every run of a module that is read: each is judged by the one rule that fails, or served where none does (ets manual).
use Rattle.std.specs.Prelude.{◌≡◌, ◌∷◌, if◌then◌else◌, List, Option, Some, None, option_and_then, codes}
use Rattle.term_core.specs.Meaning.{Meaning}
use Rattle.term_core.specs.declared.step.Step.TheVariants.{Turn}
use Rattle.core_tree.specs.Servable.{IsServableModule}
use Rattle.core_tree.specs.Syntax.{ModuleTree}
use Rattle.core_calls.specs.Calls.{signature}
use Rattle.core_calls.specs.declared.call.CallKind.{CallKind}
use Rattle.world_model.specs.Asking.{program_of}
use Rattle.world_model.specs.Calls.{Call, New, OnTable, call_of}
use Rattle.world_model.specs.Cells.{TableName}
use Rattle.world_model.specs.Events.{Event, History, Deed, Served, Refused, EndedItself, ByRule}
use Rattle.world_model.specs.TableRules.{tells_owner}
use Rattle.world_model.specs.Names.{Pid}
use Rattle.world_model.specs.NewTables.{new_rule}
use Rattle.world_model.specs.Run.{IsRun}
use Rattle.world_model.specs.World.{contents, found, owner, rule_of, answer_of}
use Rattle.world_model.specs.declared.rule.Rule.{Rule}
use Rattle.world_model.specs.declared.rule.Rule.TheVariants.{BadName}

-- ---- which events are calls of tables

-- the call of an event, with its arguments
abbrev pub call_in : Deed → Option (CallKind × List Meaning)
call_in (Served kind arguments answer) = Some (kind, arguments)
call_in (Refused kind arguments refusal) = Some (kind, arguments)
call_in (EndedItself kind arguments reason) = Some (kind, arguments)
call_in deed = None

-- a turn of this process that calls a function of the module 'ets'
pub record IsTableCall (e : Event) (p : Pid) (kind : CallKind) (arguments : List Meaning) : Type 0 where
  pub turn : e.step ≡ Turn p
  pub calls : call_in e.deed ≡ Some (kind, arguments)
  pub of_tables : (signature kind).module_name ≡ codes "ets"

-- ---- how they are judged

-- the first rule that fails; none where none does
abbrev pub first_rule : History → Pid → Call → Option Rule
first_rule h p (New None options) = Some BadName
first_rule h p (New (Some name) options) = new_rule options (contents h (TableName name))
first_rule h p (OnTable argument call) = rule_of h p argument call
first_rule h p call = None

-- the owner of the table at that moment
abbrev pub owner_then : History → Call → Option Pid
owner_then h (OnTable argument call) = option_and_then (λ f. owner h f.ref) (found h argument)
owner_then h call = None

-- where no rule fails the call is served with its answer; else it is refused by that rule, which reports the owner or not
abbrev pub judged_by : History → Pid → CallKind → List Meaning → Option Rule → Deed
judged_by h p kind arguments None = Served kind arguments (answer_of h p (call_of kind arguments))
judged_by h p kind arguments (Some rule) = Refused kind arguments (ByRule rule (if tells_owner rule then owner_then h (call_of kind arguments) else None))

-- so it is in every run of a module that is read: there each call has as many arguments as it takes (`IsServableModule`)
abbrev pub TableCallsAreJudged : Type 0
TableCallsAreJudged = (m : ModuleTree) (h : History) (e : Event) (p : Pid) (kind : CallKind) (arguments : List Meaning) → IsServableModule m → IsRun (program_of m) (e ∷ h) → IsTableCall e p kind arguments → e.deed ≡ judged_by h p kind arguments (first_rule h p (call_of kind arguments))
