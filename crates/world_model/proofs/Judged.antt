-- A call of a table is judged by its one rule, and a refused call leaves everything but its caller.
use Rattle.std.proofs.Common.{◌≡◌, Bool, true, false, List, [], ◌∷◌, Option, Some, None, refl, sym, ap, ◌∙◌, if◌then◌else◌}
use Rattle.std.specs.Prelude.{option_map}
use Rattle.term_core.specs.Meaning.{Meaning}
use Rattle.term_core.specs.declared.step.Step.TheVariants.{Turn}
use Rattle.core_calls.specs.declared.call.CallKind.{CallKind}
use Rattle.core_semantics.specs.Asked as answered
use Rattle.world_model.specs.Calls.{Call, TableArgument, TableCall, OnTable, call_of, ByName, ByReference, ByNothing}
use Rattle.world_model.specs.Cells.{Contents, Table, Machine, TableName}
use Rattle.world_model.specs.Changes.{renewed, TurnTaken}
use Rattle.world_model.specs.Events.{History, event, Served, Refused, Deed, Event}
use Rattle.world_model.specs.TableAccess.{Found, meant, as_found, find, unless_named}
use Rattle.world_model.specs.TableRules.{refusal_by}
use Rattle.world_model.specs.Lines.{line}
use Rattle.world_model.specs.Names.{Pid, Ref, Name}
use Rattle.world_model.specs.Requests.{Program}
use Rattle.world_model.specs.Run.{next_event}
use Rattle.world_model.specs.Steps.{judged, must_wait, ended_or, ends_itself, asked, deed_asked, raised_by}
use Rattle.world_model.specs.TableLaws.{IsAsked, ServedWhereNone, RefusedByRule, ServedOnlyWhereNone, RefusedLeaves, RefusedFinds}
use Rattle.world_model.specs.Terms.{atom}
use Rattle.world_model.specs.World.{found, rule_of, answer_of, contents}
use Rattle.world_model.specs.declared.rule.Rule.{Rule}

-- the deed of a call of a table: it ends nobody, and waits for nothing
deed_on_table : (v : Contents) (p : Pid) (kind : CallKind) (arguments : List Meaning) (call : Call) (argument : TableArgument) (on : TableCall) → call ≡ OnTable argument on → (if must_wait v p call then None else Some (ended_or kind arguments (ends_itself v p call) (judged kind arguments (line v p call).refusal (line v p call).answer))) ≡ Some (judged kind arguments (line v p (OnTable argument on)).refusal (line v p (OnTable argument on)).answer)
deed_on_table v p kind arguments call argument on is = ap (λ c. if must_wait v p c then None else Some (ended_or kind arguments (ends_itself v p c) (judged kind arguments (line v p c).refusal (line v p c).answer))) is

asked_is : (a : Program) (h : History) (p : Pid) (kind : CallKind) (arguments : List Meaning) (argument : TableArgument) (on : TableCall) → IsAsked a h p kind arguments argument on → next_event a h (Turn p) ≡ Some (event (Turn p) (judged kind arguments (option_map (refusal_by (found h argument)) (rule_of h p argument on)) (answer_of h p (OnTable argument on))))
asked_is a h p kind arguments argument on is =
    ap (λ b. option_map (event (Turn p)) (if b then deed_asked (contents h) p (asked a p (contents h (Machine p))) else None)) is.lives
    ∙ ap (λ q. option_map (event (Turn p)) (deed_asked (contents h) p q)) is.asks
    ∙ ap (option_map (event (Turn p))) (deed_on_table (contents h) p kind arguments (call_of kind arguments) argument on is.is_call)

pub served_where_none : ServedWhereNone
served_where_none a h p kind arguments argument on is none = asked_is a h p kind arguments argument on is ∙ ap (λ o. Some (event (Turn p) (judged kind arguments (option_map (refusal_by (found h argument)) o) (answer_of h p (OnTable argument on))))) none

pub refused_by_rule : RefusedByRule
refused_by_rule a h p kind arguments argument on rule is some = asked_is a h p kind arguments argument on is ∙ ap (λ o. Some (event (Turn p) (judged kind arguments (option_map (refusal_by (found h argument)) o) (answer_of h p (OnTable argument on))))) some

-- whether an event served a call
serves_deed : Deed → Bool
serves_deed (Served kind arguments answer) = true
serves_deed deed = false

is_served : Option Event → Bool
is_served None = false
is_served (Some e) = serves_deed e.deed

none_fails : (kind : CallKind) (arguments : List Meaning) (f : Option Found) (o : Option Rule) (answer : Meaning) → serves_deed (judged kind arguments (option_map (refusal_by f) o) answer) ≡ true → o ≡ None
unfolding serves_deed
none_fails kind arguments f None answer is = refl
none_fails kind arguments f (Some rule) answer is = absurd cc

pub served_only_where_none : ServedOnlyWhereNone
unfolding is_served serves_deed
served_only_where_none a h p kind arguments argument on answer is now = none_fails kind arguments (found h argument) (rule_of h p argument on) (answer_of h p (OnTable argument on)) (ap is_served (sym (asked_is a h p kind arguments argument on is) ∙ now))

-- ---- a refused call

pub refused_leaves : RefusedLeaves
unfolding contents
refused_leaves h p kind arguments refusal c other = ap (λ b. if b then renewed (TurnTaken p (answered.Raise (atom (raised_by refusal)) ∷ [])) c (contents h c) else contents h c) other

meant_same : (v w : Contents) (o : Option Ref) → ((t : Ref) → v (Table t) ≡ w (Table t)) → meant v o ≡ meant w o
meant_same v w None tables_ = refl
meant_same v w (Some t) tables_ = ap (as_found t) (tables_ t)

find_same : (v w : Contents) (argument : TableArgument) → ((n : Name) → v (TableName n) ≡ w (TableName n)) → ((t : Ref) → v (Table t) ≡ w (Table t)) → find v argument ≡ find w argument
find_same v w (ByName n) names tables_ = meant_same v w (v (TableName n)) tables_ ∙ ap (meant w) (names n)
find_same v w (ByReference t) names tables_ = ap (λ o. unless_named (as_found t o)) (tables_ t)
find_same v w ByNothing names tables_ = refl

pub refused_finds : RefusedFinds
unfolding contents
refused_finds h p kind arguments refusal argument = find_same (contents (event (Turn p) (Refused kind arguments refusal) ∷ h)) (contents h) argument (λ n. refl) (λ t. refl)
