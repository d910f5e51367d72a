-- What the laws of table calls say.
use Rattle.std.specs.FinMap.{get, entries, is_sorted, find as find_key}
use Rattle.std.specs.Prelude.{◌≡◌, ◌∷◌, List, T, true, None, Some, false}
use Rattle.term_core.specs.Meaning.{Meaning}
use Rattle.term_core.specs.Order.{order_of_terms}
use Rattle.term_core.specs.declared.step.Step.TheVariants.{Turn}
use Rattle.core_calls.specs.declared.call.CallKind.{CallKind}
use Rattle.world_model.specs.Calls.{TableArgument, TableCall, call_of, OnTable}
use Rattle.world_model.specs.Cells.{Machine, Cell, meet}
use Rattle.world_model.specs.Events.{History, Served, event, Refused, ByRule, Refusal}
use Rattle.world_model.specs.TableRules.{told_owner}
use Rattle.world_model.specs.Names.{Pid, Ref}
use Rattle.world_model.specs.Requests.{Program, Calls}
use Rattle.world_model.specs.Rows.{Key, some_if, Object}
use Rattle.world_model.specs.Run.{next_event}
use Rattle.world_model.specs.Steps.{asked}
use Rattle.world_model.specs.World.{alive, contents, rule_of, answer_of, found, rows, all_rows}
use Rattle.world_model.specs.declared.rule.Rule.{Rule}

-- a living process asks this call of a table
pub record IsAsked (a : Program) (h : History) (p : Pid) (kind : CallKind) (arguments : List Meaning) (argument : TableArgument) (call : TableCall) : Type 0 where
  pub lives : alive h p ≡ true
  pub asks : asked a p (contents h (Machine p)) ≡ Calls kind arguments
  pub is_call : call_of kind arguments ≡ OnTable argument call

-- where no rule fails it is served, with its answer
abbrev pub ServedWhereNone : Type 0
ServedWhereNone = (a : Program) (h : History) (p : Pid) (kind : CallKind) (arguments : List Meaning) (argument : TableArgument) (call : TableCall) → IsAsked a h p kind arguments argument call → rule_of h p argument call ≡ None → next_event a h (Turn p) ≡ Some (event (Turn p) (Served kind arguments (answer_of h p (OnTable argument call))))

-- and else it is refused by the one rule, with the owner at that time where the rule reports it
abbrev pub RefusedByRule : Type 0
RefusedByRule = (a : Program) (h : History) (p : Pid) (kind : CallKind) (arguments : List Meaning) (argument : TableArgument) (call : TableCall) (rule : Rule) → IsAsked a h p kind arguments argument call → rule_of h p argument call ≡ Some rule → next_event a h (Turn p) ≡ Some (event (Turn p) (Refused kind arguments (ByRule rule (told_owner rule (found h argument)))))

-- so it is served exactly where no rule fails
abbrev pub ServedOnlyWhereNone : Type 0
ServedOnlyWhereNone = (a : Program) (h : History) (p : Pid) (kind : CallKind) (arguments : List Meaning) (argument : TableArgument) (call : TableCall) (answer : Meaning) → IsAsked a h p kind arguments argument call → next_event a h (Turn p) ≡ Some (event (Turn p) (Served kind arguments answer)) → rule_of h p argument call ≡ None

-- a refused call leaves everything as it was but the course of its caller
abbrev pub RefusedLeaves : Type 0
RefusedLeaves = (h : History) (p : Pid) (kind : CallKind) (arguments : List Meaning) (refusal : Refusal) (c : Cell) → meet (Machine p) c ≡ false → contents (event (Turn p) (Refused kind arguments refusal) ∷ h) c ≡ contents h c

-- so every table, every row and every name is found as before
abbrev pub RefusedFinds : Type 0
RefusedFinds = (h : History) (p : Pid) (kind : CallKind) (arguments : List Meaning) (refusal : Refusal) (argument : TableArgument) → found (event (Turn p) (Refused kind arguments refusal) ∷ h) argument ≡ found h argument

-- all rows of a table are the rows under its keys: each key that has objects, and no other
abbrev pub AreRows : Type 0
AreRows = (h : History) (t : Ref) (key : Key) → get (all_rows h t) key ≡ some_if (rows h t key)

-- so histories that leave the same under each key leave the same rows
abbrev pub AreByKey : Type 0
AreByKey = (h g : History) (t : Ref) → ((key : Key) → rows h t key ≡ rows g t key) → all_rows h t ≡ all_rows g t

-- entries in the order of keys that answer each key as the rows do are all rows
abbrev pub AreWalked : Type 0
AreWalked = (h : History) (t : Ref) (es : List (Key × List Object)) → T (is_sorted order_of_terms es) → ((key : Key) → find_key order_of_terms key es ≡ some_if (rows h t key)) → entries (all_rows h t) ≡ es
