-- A call that was served was not refused.
use Rattle.std.proofs.Common.{◌≡◌, Bool, true, false, List, ap, Option, Some, None, refl, sym, ◌∙◌, if◌then◌else◌}
use Rattle.std.specs.Prelude.{unwrap_or}
use Rattle.term_core.specs.Meaning.{Meaning}
use Rattle.term_core.specs.declared.step.Step.{Step}
use Rattle.term_core.specs.declared.step.Step.TheVariants.{Turn}
use Rattle.core_calls.specs.declared.call.CallKind.{CallKind}
use Rattle.world_model.specs.Calls.{call_of}
use Rattle.world_model.specs.Cells.{Alive, Contents, Machine}
use Rattle.world_model.specs.Events.{Event, Deed, Served, Ended, Received, TimedOut, RanAway, Refusal, History}
use Rattle.world_model.specs.Lines.{line}
use Rattle.world_model.specs.Mailboxes.{mailbox_in, selected_of}
use Rattle.world_model.specs.Names.{Pid}
use Rattle.world_model.specs.Requests.{Calls, Ends, Request, Receives, RunsAway, Program}
use Rattle.world_model.specs.Run.{next_event}
use Rattle.world_model.specs.Steps.{judged, ended_or, received, asked, deed_asked, ends_itself, must_wait, next_deed}
use Rattle.world_model.specs.World.{contents}
use Rattle.world_model.proofs.Histories.{deed_is}

no_served : {A : Type 0} {x : A} → None ≡ Some x → ⊥
no_served e = absurd cc

-- a served call was not refused
abbrev pub Unrefused : Contents → Step → Deed → Type 0
Unrefused v step deed = (p : Pid) (kind : CallKind) (arguments : List Meaning) (answer : Meaning) → step ≡ Turn p → deed ≡ Served kind arguments answer → (line v p (call_of kind arguments)).refusal ≡ None

-- what a deed says of a call that was served
served_in : Deed → Option (CallKind × List Meaning)
served_in (Served kind arguments answer) = Some (kind, arguments)
served_in deed = None

judged_served : (kind : CallKind) (arguments : List Meaning) (o : Option Refusal) (x : Meaning) (k : CallKind) (xs : List Meaning) → served_in (judged kind arguments o x) ≡ Some (k, xs) → (o ≡ None) × (kind ≡ k) × (arguments ≡ xs)
unfolding served_in
judged_served kind arguments None x k xs is = (refl, ap (λ o. (unwrap_or {T = CallKind × List Meaning} o (kind, arguments)).0) is, ap (λ o. (unwrap_or {T = CallKind × List Meaning} o (kind, arguments)).1) is)
judged_served kind arguments (Some refusal) x k xs is = absurd cc

ended_served : (kind : CallKind) (arguments : List Meaning) (end : Option Meaning) (o : Option Refusal) (x : Meaning) (k : CallKind) (xs : List Meaning) → served_in (ended_or kind arguments end (judged kind arguments o x)) ≡ Some (k, xs) → (o ≡ None) × (kind ≡ k) × (arguments ≡ xs)
unfolding served_in
ended_served kind arguments None o x k xs is = judged_served kind arguments o x k xs is
ended_served kind arguments (Some reason) o x k xs is = absurd cc

waited_served : (b : Bool) (d e : Deed) (k : CallKind) (xs : List Meaning) → (if b then None else Some d) ≡ Some e → served_in e ≡ Some (k, xs) → served_in d ≡ Some (k, xs)
unfolding served_in
waited_served true d e k xs now is = absurd cc
waited_served false d e k xs now is = ap (λ o. served_in (unwrap_or o d)) now ∙ is

received_served : (waits : Bool) (o : Option Meaning) (e : Deed) (k : CallKind) (xs : List Meaning) → received waits o ≡ Some e → served_in e ≡ Some (k, xs) → ⊥
unfolding served_in
received_served waits (Some m) e k xs now is = no_served (ap (λ o. served_in (unwrap_or o (Received m))) now ∙ is)
received_served true None e k xs now is = absurd cc
received_served false None e k xs now is = no_served (ap (λ o. served_in (unwrap_or o TimedOut)) now ∙ is)

asked_served : (v : Contents) (p : Pid) (q : Request) (e : Deed) (k : CallKind) (xs : List Meaning) → deed_asked v p q ≡ Some e → served_in e ≡ Some (k, xs) → (line v p (call_of k xs)).refusal ≡ None
unfolding served_in
asked_served v p (Calls kind arguments) e k xs now is =
    let call = call_of kind arguments in
    let by = ended_served kind arguments (ends_itself v p call) (line v p call).refusal (line v p call).answer k xs (waited_served (must_wait v p call) (ended_or kind arguments (ends_itself v p call) (judged kind arguments (line v p call).refusal (line v p call).answer)) e k xs now is) in
    (λ i. (line v p (call_of (sym by.1 i) (sym by.2 i))).refusal) ∙ by.0
asked_served v p (Receives waits selects) e k xs now is = absurd (received_served waits (selected_of selects (mailbox_in v p)) e k xs now is)
asked_served v p (Ends reason) e k xs now is = absurd (no_served (ap (λ o. served_in (unwrap_or o (Ended reason))) now ∙ is))
asked_served v p RunsAway e k xs now is = absurd (no_served (ap (λ o. served_in (unwrap_or o RanAway)) now ∙ is))

turn_served : (v : Contents) (b : Bool) (p : Pid) (q : Request) (e : Deed) (k : CallKind) (xs : List Meaning) → (if b then deed_asked v p q else None) ≡ Some e → served_in e ≡ Some (k, xs) → (line v p (call_of k xs)).refusal ≡ None
turn_served v true p q e k xs now is = asked_served v p q e k xs now is
turn_served v false p q e k xs now is = absurd cc

pub unrefused_in : (a : Program) (h : History) (step : Step) (e : Event) → next_event a h step ≡ Some e → Unrefused (contents h) step e.deed
unfolding served_in
unrefused_in a h step e now = λ p kind arguments answer is deed.
    let there : next_deed a (contents h) (Turn p) ≡ Some e.deed = ap (next_deed a (contents h)) (sym is) ∙ deed_is step (next_deed a (contents h) step) e now in
    turn_served (contents h) (contents h (Alive p)) p (asked a p (contents h (Machine p))) e.deed kind arguments there (ap served_in deed)
