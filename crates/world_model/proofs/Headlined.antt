-- Each call of a table in a run of a module that is read is judged by its one rule.
use Rattle.std.proofs.Common.{◌≡◌, ◌∙◌, Bool, true, false, List, [], ◌∷◌, length, Option, Some, None, refl, sym, ap, if◌then◌else◌, true≢false, arith}
use Rattle.std.specs.Prelude.{option_map, option_and_then, unwrap_or, codes}
use Rattle.term_core.specs.Meaning.{Meaning}
use Rattle.term_core.specs.declared.step.Step.TheVariants.{Turn}
use Rattle.core_tree.specs.Servable.{IsServableModule}
use Rattle.core_tree.specs.Syntax.{ModuleTree}
use Rattle.core_calls.specs.Calls.{signature}
use Rattle.core_calls.specs.declared.call.CallKind.{CallKind}
use Rattle.core_calls.specs.declared.call.CallKind.TheVariants as kinds
use Rattle.core_semantics.specs.Ask.{Entry, ask}
use Rattle.core_semantics.specs.Asked as asked_
use Rattle.core_semantics.specs.Asked.{Asked, Answered}
use Rattle.core_semantics.specs.Servable.{IsReadRequest}
use Rattle.world_model.specs.Asking.{entry_of, program_of, request_of}
use Rattle.world_model.specs.Calls.{Call, New, OnTable, call_of}
use Rattle.world_model.specs.Cells.{Contents, Alive, Machine, Table, TableName}
use Rattle.world_model.specs.Events.{History, Deed, Served, Refused, Received, TimedOut, Ended, RanAway, Refusal, ByRule}
use Rattle.world_model.specs.TableAccess.{Found}
use Rattle.world_model.specs.Headline.{call_in, first_rule, owner_then, judged_by, TableCallsAreJudged}
use Rattle.world_model.specs.TableRules.{refusal_by, tells_owner}
use Rattle.world_model.specs.Lines.{line}
use Rattle.world_model.specs.Mailboxes.{mailbox_in, selected_of}
use Rattle.world_model.specs.Names.{Pid, same_name}
use Rattle.world_model.specs.NewTables.{by_rule, new_rule}
use Rattle.world_model.specs.Requests.{Calls, Receives, Ends, RunsAway, Request}
use Rattle.world_model.specs.Steps.{asked, deed_asked, ended_or, ends_itself, judged, must_wait, next_deed, received}
use Rattle.world_model.specs.World.{contents, found, owner, rule_of, answer_of}
use Rattle.world_model.specs.declared.rule.Rule.{Rule}
use Rattle.world_model.proofs.Histories.{deed_is}
use Rattle.world_model.proofs.Named.{found_there}

-- ---- a call of the module 'ets' with its number of arguments is one of tables

abbrev OfTables : Call → Bool
OfTables (New name options) = true
OfTables (OnTable argument call) = true
OfTables call = false

one_of : (xs : List Meaning) → length xs ≡ 1 → (a : Meaning) × (xs ≡ a ∷ [])
one_of [] long = absurd (omega (arith, long))
one_of (a ∷ []) long = (a, refl)
one_of (a ∷ b ∷ xs) long = absurd (omega (arith, long))

two_of : (xs : List Meaning) → length xs ≡ 2 → (a : Meaning) × (b : Meaning) × (xs ≡ a ∷ b ∷ [])
two_of [] long = absurd (omega (arith, long))
two_of (a ∷ []) long = absurd (omega (arith, long))
two_of (a ∷ b ∷ []) long = (a, b, refl)
two_of (a ∷ b ∷ c ∷ xs) long = absurd (omega (arith, long))

three_of : (xs : List Meaning) → length xs ≡ 3 → (a : Meaning) × (b : Meaning) × (c : Meaning) × (xs ≡ a ∷ b ∷ c ∷ [])
three_of [] long = absurd (omega (arith, long))
three_of (a ∷ []) long = absurd (omega (arith, long))
three_of (a ∷ b ∷ []) long = absurd (omega (arith, long))
three_of (a ∷ b ∷ c ∷ []) long = (a, b, c, refl)
three_of (a ∷ b ∷ c ∷ d ∷ xs) long = absurd (omega (arith, long))

four_of : (xs : List Meaning) → length xs ≡ 4 → (a : Meaning) × (b : Meaning) × (c : Meaning) × (d : Meaning) × (xs ≡ a ∷ b ∷ c ∷ d ∷ [])
four_of [] long = absurd (omega (arith, long))
four_of (a ∷ []) long = absurd (omega (arith, long))
four_of (a ∷ b ∷ []) long = absurd (omega (arith, long))
four_of (a ∷ b ∷ c ∷ []) long = absurd (omega (arith, long))
four_of (a ∷ b ∷ c ∷ d ∷ []) long = (a, b, c, d, refl)
four_of (a ∷ b ∷ c ∷ d ∷ e ∷ xs) long = absurd (omega (arith, long))

fits : (kind : CallKind) (xs : List Meaning) → same_name (signature kind).module_name (codes "ets") ≡ true → length xs ≡ (signature kind).arity → OfTables (call_of kind xs) ≡ true
fits kinds.New xs of long = ap (λ ys. OfTables (call_of kinds.New ys)) (two_of xs long).2
fits kinds.Lookup xs of long = ap (λ ys. OfTables (call_of kinds.Lookup ys)) (two_of xs long).2
fits kinds.Member xs of long = ap (λ ys. OfTables (call_of kinds.Member ys)) (two_of xs long).2
fits kinds.LookupElement xs of long = ap (λ ys. OfTables (call_of kinds.LookupElement ys)) (three_of xs long).3
fits kinds.First xs of long = ap (λ ys. OfTables (call_of kinds.First ys)) (one_of xs long).1
fits kinds.Last xs of long = ap (λ ys. OfTables (call_of kinds.Last ys)) (one_of xs long).1
fits kinds.Next xs of long = ap (λ ys. OfTables (call_of kinds.Next ys)) (two_of xs long).2
fits kinds.Prev xs of long = ap (λ ys. OfTables (call_of kinds.Prev ys)) (two_of xs long).2
fits kinds.TableToList xs of long = ap (λ ys. OfTables (call_of kinds.TableToList ys)) (one_of xs long).1
fits kinds.Insert xs of long = ap (λ ys. OfTables (call_of kinds.Insert ys)) (two_of xs long).2
fits kinds.InsertNew xs of long = ap (λ ys. OfTables (call_of kinds.InsertNew ys)) (two_of xs long).2
fits kinds.DeleteTable xs of long = ap (λ ys. OfTables (call_of kinds.DeleteTable ys)) (one_of xs long).1
fits kinds.DeleteKey xs of long = ap (λ ys. OfTables (call_of kinds.DeleteKey ys)) (two_of xs long).2
fits kinds.DeleteObject xs of long = ap (λ ys. OfTables (call_of kinds.DeleteObject ys)) (two_of xs long).2
fits kinds.DeleteAllObjects xs of long = ap (λ ys. OfTables (call_of kinds.DeleteAllObjects ys)) (one_of xs long).1
fits kinds.Take xs of long = ap (λ ys. OfTables (call_of kinds.Take ys)) (two_of xs long).2
fits kinds.UpdateCounter xs of long = ap (λ ys. OfTables (call_of kinds.UpdateCounter ys)) (three_of xs long).3
fits kinds.UpdateCounterWith xs of long = ap (λ ys. OfTables (call_of kinds.UpdateCounterWith ys)) (four_of xs long).4
fits kinds.UpdateElement xs of long = ap (λ ys. OfTables (call_of kinds.UpdateElement ys)) (three_of xs long).3
fits kinds.GiveAway xs of long = ap (λ ys. OfTables (call_of kinds.GiveAway ys)) (three_of xs long).3
fits kinds.SetOptions xs of long = ap (λ ys. OfTables (call_of kinds.SetOptions ys)) (two_of xs long).2
fits kinds.Info xs of long = ap (λ ys. OfTables (call_of kinds.Info ys)) (two_of xs long).2
fits kinds.InfoAll xs of long = ap (λ ys. OfTables (call_of kinds.InfoAll ys)) (one_of xs long).1
fits kind xs of long = absurd (true≢false (sym of))

-- ---- what such a call results in

-- what a refusal reports is the owner at that moment
owner_of_found : (h : History) (o : Option Found) → ((f : Found) → o ≡ Some f → contents h (Table f.ref) ≡ Some f.table) → option_map (λ f. f.table.owner) o ≡ option_and_then (λ f. owner h f.ref) o
owner_of_found h None there = refl
owner_of_found h (Some f) there = sym (ap (option_map (λ t. t.owner)) (there f refl))

told_then : (h : History) (p : Pid) (kind : CallKind) (arguments : List Meaning) (f : Option Found) (o : Option Pid) (rule : Option Rule) (answer : Meaning) (call : Call) → call_of kind arguments ≡ call → answer ≡ answer_of h p call → option_map (λ g. g.table.owner) f ≡ o → owner_then h call ≡ o
    → judged kind arguments (option_map (refusal_by f) rule) answer ≡ judged_by h p kind arguments rule
told_then h p kind arguments f o None answer call is same told then_ = ap (Served kind arguments) (same ∙ sym (ap (answer_of h p) is))
told_then h p kind arguments f o (Some rule) answer call is same told then_ = ap (λ q. Refused kind arguments (ByRule rule (if tells_owner rule then q else None))) (told ∙ sym then_ ∙ sym (ap (owner_then h) is))

none_told : (b : Bool) (o : Option Pid) → o ≡ None → None ≡ (if b then o else None)
none_told true o none = sym none
none_told false o none = refl

new_told : (h : History) (p : Pid) (kind : CallKind) (arguments : List Meaning) (rule : Option Rule) (answer : Meaning) (call : Call) → call_of kind arguments ≡ call → answer ≡ answer_of h p call → owner_then h call ≡ None
    → judged kind arguments (option_map (by_rule None) rule) answer ≡ judged_by h p kind arguments rule
new_told h p kind arguments None answer call is same none = ap (Served kind arguments) (same ∙ sym (ap (answer_of h p) is))
new_told h p kind arguments (Some rule) answer call is same none = ap (λ q. Refused kind arguments (ByRule rule q)) (none_told (tells_owner rule) (owner_then h (call_of kind arguments)) (ap (owner_then h) is ∙ none))

comes_to : (h : History) (p : Pid) (kind : CallKind) (arguments : List Meaning) (call : Call) → call_of kind arguments ≡ call → OfTables call ≡ true
    → (if must_wait (contents h) p call then None else Some (ended_or kind arguments (ends_itself (contents h) p call) (judged kind arguments (line (contents h) p call).refusal (line (contents h) p call).answer))) ≡ Some (judged_by h p kind arguments (first_rule h p call))
comes_to h p kind arguments (New None options) is of = ap Some (new_told h p kind arguments (first_rule h p (New None options)) (answer_of h p (New None options)) (New None options) is refl refl)
comes_to h p kind arguments (New (Some name) None) is of = ap Some (new_told h p kind arguments (new_rule None (contents h (TableName name))) (answer_of h p (New (Some name) None)) (New (Some name) None) is refl refl)
comes_to h p kind arguments (New (Some name) (Some os)) is of = ap Some (new_told h p kind arguments (new_rule (Some os) (contents h (TableName name))) (answer_of h p (New (Some name) (Some os))) (New (Some name) (Some os)) is refl refl)
comes_to h p kind arguments (OnTable argument call) is of = ap Some (told_then h p kind arguments (found h argument) (owner_then h (OnTable argument call)) (rule_of h p argument call) (answer_of h p (OnTable argument call)) (OnTable argument call) is refl (owner_of_found h (found h argument) (λ f now. found_there (contents h) argument f now)) refl)
comes_to h p kind arguments call is of = absurd (true≢false (sym of))

-- ---- the call of an event is what its process asks

no_pair : {A : Type 0} {x : A} → None ≡ Some x → ⊥
no_pair e = absurd cc

abbrev Pair : Type 0
Pair = CallKind × List Meaning

pair_is : (x y : Pair) → Some x ≡ Some y → (x.0 ≡ y.0) × (x.1 ≡ y.1)
pair_is x y is = (ap (λ o. (unwrap_or o x).0) is, ap (λ o. (unwrap_or o x).1) is)

judged_calls : (k : CallKind) (xs : List Meaning) (o : Option Refusal) (x : Meaning) → call_in (judged k xs o x) ≡ Some (k, xs)
judged_calls k xs None x = refl
judged_calls k xs (Some refusal) x = refl

ended_calls : (k : CallKind) (xs : List Meaning) (end : Option Meaning) (o : Option Refusal) (x : Meaning) → call_in (ended_or k xs end (judged k xs o x)) ≡ Some (k, xs)
ended_calls k xs None o x = judged_calls k xs o x
ended_calls k xs (Some reason) o x = refl

not_waited : (b : Bool) (d e : Deed) → (if b then None else Some d) ≡ Some e → d ≡ e
not_waited true d e now = absurd cc
not_waited false d e now = ap (λ o. unwrap_or o d) now

no_call : (d e : Deed) (k : CallKind) (xs : List Meaning) → Some d ≡ Some e → call_in d ≡ None → call_in e ≡ Some (k, xs) → ⊥
no_call d e k xs now none is = absurd (no_pair (sym none ∙ ap call_in (ap (λ o. unwrap_or o d) now) ∙ is))

received_no_call : (waits : Bool) (o : Option Meaning) (e : Deed) (k : CallKind) (xs : List Meaning) → received waits o ≡ Some e → call_in e ≡ Some (k, xs) → ⊥
received_no_call waits (Some m) e k xs now is = no_call (Received m) e k xs now refl is
received_no_call true None e k xs now is = absurd cc
received_no_call false None e k xs now is = no_call TimedOut e k xs now refl is

asks_it : (v : Contents) (p : Pid) (q : Request) (e : Deed) (k : CallKind) (xs : List Meaning) → deed_asked v p q ≡ Some e → call_in e ≡ Some (k, xs) → q ≡ Calls k xs
asks_it v p (Calls kind arguments) e k xs now is =
    let call = call_of kind arguments in
    let deed = ended_or kind arguments (ends_itself v p call) (judged kind arguments (line v p call).refusal (line v p call).answer) in
    let by = pair_is (kind, arguments) (k, xs) (sym (ended_calls kind arguments (ends_itself v p call) (line v p call).refusal (line v p call).answer) ∙ ap call_in (not_waited (must_wait v p call) deed e now) ∙ is) in
    λ i. Calls (by.0 i) (by.1 i)
asks_it v p (Receives waits selects) e k xs now is = absurd (received_no_call waits (selected_of selects (mailbox_in v p)) e k xs now is)
asks_it v p (Ends reason) e k xs now is = absurd (no_call (Ended reason) e k xs now refl is)
asks_it v p RunsAway e k xs now is = absurd (no_call RanAway e k xs now refl is)

where_lives : (b : Bool) (d : Option Deed) (e : Deed) → (if b then d else None) ≡ Some e → d ≡ Some e
where_lives true d e now = now
where_lives false d e now = absurd cc

-- what evaluation asks, from what the world is asked
call_of_request : Request → Option (CallKind × List Meaning)
call_of_request (Calls kind arguments) = Some (kind, arguments)
call_of_request q = None

read_by : (x : Asked) (k : CallKind) (xs : List Meaning) → request_of x ≡ Calls k xs → IsReadRequest x → length xs ≡ (signature k).arity
unfolding call_of_request
read_by (asked_.Call kind arguments) k xs is read =
    let by = pair_is (kind, arguments) (k, xs) (ap call_of_request is) in
    sym (ap length by.1) ∙ read ∙ ap (λ l. (signature l).arity) by.0
read_by (asked_.Receive waits selects) k xs is read = absurd (no_pair (ap call_of_request is))
read_by (asked_.End reason) k xs is read = absurd (no_pair (ap call_of_request is))
read_by asked_.Runaway k xs is read = absurd (no_pair (ap call_of_request is))

pub are_judged : ((m : ModuleTree) (p : Pid) (e : Entry) (answers : List Answered) → IsServableModule m → IsReadRequest (ask m p e answers)) → TableCallsAreJudged
are_judged asks m h e p kind arguments readable is call =
    let v = contents h in
    let course = v (Machine p) in
    let deed : next_deed (program_of m) v (Turn p) ≡ Some e.deed = ap (next_deed (program_of m) v) (sym call.turn) ∙ deed_is e.step (next_deed (program_of m) v e.step) e is.0 in
    let now = where_lives (v (Alive p)) (deed_asked v p (asked (program_of m) p course)) e.deed deed in
    let request = asks_it v p (asked (program_of m) p course) e.deed kind arguments now call.calls in
    let long = read_by (ask m p (entry_of m course.origin) course.answers) kind arguments request (asks m p (entry_of m course.origin) course.answers readable) in
    let of = fits kind arguments (ap (λ n. same_name n (codes "ets")) call.of_tables) long in
    ap (λ o. unwrap_or o e.deed) (sym now ∙ ap (deed_asked v p) request ∙ comes_to h p kind arguments (call_of kind arguments) refl of)
