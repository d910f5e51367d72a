-- What turns and deliveries plan, of the values that they read.
use Rattle.std.proofs.Common.{◌≡◌, ◌∙◌, Bool, true, false, List, [], ◌∷◌, ◌++◌, Option, Some, None, is_some, option_map, unwrap_or, if◌then◌else◌, refl, sym, ap, subst, true≢false}
use Rattle.std.specs.Prelude.{Result, Ok, Err, IfOk, OnOk}
use Rattle.core_calls.specs.declared.call.CallKind.{CallKind}
use Rattle.term_core.specs.Meaning.{Meaning}
use Rattle.term_core.specs.declared.step.Step.TheVariants.{Turn, Deliver}
use Rattle.world_model.specs.Calls.{Call, IsAlive, ProcessInfo, call_of}
use Rattle.world_model.specs.Cells as cells
use Rattle.world_model.specs.Cells.{Cell, Contents}
use Rattle.world_model.specs.Changes.{Change, AliveCleared, after, changed}
use Rattle.world_model.specs.Ends.{left_by, reads_of_end}
use Rattle.world_model.specs.Events as events
use Rattle.world_model.specs.Events.{Deed, Refusal, Delivered, Ended, RanAway, Fate, Arrives, IsIgnored, IsDropped, Kills, Signal}
use Rattle.world_model.specs.Lines.{line}
use Rattle.world_model.specs.Mailboxes.{picked, reads_to_pick}
use Rattle.world_model.specs.Names.{Pid, same_pid}
use Rattle.world_model.specs.Requests.{Program, Request, Calls, Ends, RunsAway}
use Rattle.world_model.specs.ProcessLines.{info_line}
use Rattle.world_model.specs.Steps.{asked, changes_of_fate, deed_asked, deed_delivered, deed_of_call, ended_or, ends_itself, judged, must_wait, reads_if_killed, reads_of_signal, received, runaway}
use Rattle.world_model.specs.Signals.{fate_of, first_of, goes_with, reads_of_fate, waiting_in}
use Rattle.world_footprints.specs.Deeds.{deed_in}
use Rattle.world_planned.specs.inside.Planned.{Adds}
use Rattle.world_footprints.specs.Plans.{ChangesAreInOrder, others_if, others_of_turn}
use Rattle.world_planned.specs.inside.PlannedCalls.{IsPlanned, IsReply, changes_of_reply}
use Rattle.world_plans.specs.inside.Turns.{IsPlannedDelivery, IsPlannedStep, IsPlannedTurn}
use Rattle.world_plans.specs.inside.Called.{deed_of_reply}
use Rattle.world_plans.specs.inside.Delivered.{IsPlannedSignal}
use Rattle.world_footprints.specs.declared.deed.Deed as stored
use Rattle.world_planned.specs.declared.planned.Planned.{Planned}
use Rattle.world_planned.specs.declared.reply.Reply.{Reply}
use Rattle.world_planned.specs.declared.reply.Reply.TheVariants.{Served, Refused, Ends}
use Rattle.world_model.specs.declared.process.ProcessItem.{ProcessItem}
use Rattle.world_planned.proofs.Adding.{adds_as, adds_then}

-- ---- the changes of an event: first those of its deed, and then the others

pub in_order : ChangesAreInOrder
in_order v (Turn p) (events.Served kind arguments answer) = refl
in_order v (Turn p) (events.Refused kind arguments refusal) = refl
in_order v (Turn p) (events.EndedItself kind arguments reason) = refl
in_order v (Turn p) (events.Received message) = refl
in_order v (Turn p) events.TimedOut = refl
in_order v (Turn p) (events.Ended reason) = refl
in_order v (Turn p) events.RanAway = refl
in_order v (Turn p) (events.Delivered signal fate) = refl
in_order v (Deliver s r) (events.Delivered signal fate) = refl
in_order v (Deliver s r) deed = refl

pub if_ok : {T E : Type 0} (r : Result T E) (P Q : T → Type 0) → ((x : T) → P x → Q x) → IfOk r P → IfOk r Q
if_ok (Ok x) P Q f h = f x h
if_ok (Err e) P Q f h = h

pub on_ok : {T E : Type 0} (r : Result T E) (P Q : Type 0) → (P → Q) → OnOk r P → OnOk r Q
on_ok (Ok x) P Q f h = f h
on_ok (Err e) P Q f h = h

pub same_in : {A : Type 0} (x y : A) → Some x ≡ Some y → x ≡ y
same_in x y e = ap (λ o. unwrap_or o x) e

-- ---- calls

-- what waits changes nothing
told_changes : (b : Bool) (v : Contents) (p q : Pid) (item : ProcessItem) → (info_line b v p q item).changes ≡ []
told_changes true v p q item = refl
told_changes false v p q item = refl

pub waits_changes : (v : Contents) (p : Pid) (call : Call) (reply : Reply) → must_wait v p call ≡ true → IsReply v p call reply → changes_of_reply v p call reply ≡ []
waits_changes v p (IsAlive (Some q)) (Served answer) e is = refl
waits_changes v p (IsAlive (Some q)) (Refused refusal) e is = refl
waits_changes v p (IsAlive (Some q)) (Ends reason) e is = absurd (true≢false (ap is_some (sym is)))
waits_changes v p (ProcessInfo (Some q) (Some item)) (Served answer) e is = told_changes (same_pid p q) v p q item
waits_changes v p (ProcessInfo (Some q) (Some item)) (Refused refusal) e is = refl
waits_changes v p (ProcessInfo (Some q) (Some item)) (Ends reason) e is = absurd (true≢false (ap is_some (sym is)))
waits_changes v p call reply e is = absurd (true≢false (sym e))

deed_by : (kind : CallKind) (arguments : List Meaning) (waits : Bool) (end : Option Meaning) (refusal : Option Refusal) (answer : Meaning) → Option Deed
deed_by kind arguments waits end refusal answer = if waits then None else Some (ended_or kind arguments end (judged kind arguments refusal answer))

pub waits_now : (v : Contents) (p : Pid) (kind : CallKind) (arguments : List Meaning) → must_wait v p (call_of kind arguments) ≡ true → None ≡ deed_of_call v p kind arguments
unfolding deed_by
waits_now v p kind arguments waits = λ i. deed_by kind arguments (sym waits i) (ends_itself v p (call_of kind arguments)) (line v p (call_of kind arguments)).refusal (line v p (call_of kind arguments)).answer

-- a call that need not wait results in its deed
pub comes_to : (v : Contents) (p : Pid) (kind : CallKind) (arguments : List Meaning) (reply : Reply) → must_wait v p (call_of kind arguments) ≡ false → IsReply v p (call_of kind arguments) reply → Some (deed_of_reply kind arguments reply) ≡ deed_of_call v p kind arguments
unfolding deed_by
comes_to v p kind arguments (Served answer) ready is = λ i. deed_by kind arguments (sym ready i) (sym is.goes_on i) (sym is.is_served i) (is.answers i)
comes_to v p kind arguments (Refused refusal) ready is = λ i. deed_by kind arguments (sym ready i) (sym is.goes_on i) (sym is.is_refused i) (line v p (call_of kind arguments)).answer
comes_to v p kind arguments (Ends reason) ready is = λ i. deed_by kind arguments (sym ready i) (sym is i) (line v p (call_of kind arguments)).refusal (line v p (call_of kind arguments)).answer

-- its changes are those of its deed
pub changes_of_deed : (v : Contents) (p : Pid) (kind : CallKind) (arguments : List Meaning) (reply : Reply) → changes_of_reply v p (call_of kind arguments) reply ≡ others_of_turn v p (deed_of_reply kind arguments reply)
changes_of_deed v p kind arguments (Served answer) = refl
changes_of_deed v p kind arguments (Refused refusal) = refl
changes_of_deed v p kind arguments (Ends reason) = refl

pub call_waits : (v : Contents) (p : Pid) (kind : CallKind) (arguments : List Meaning) (reply : Reply) (f g : Planned) → must_wait v p (call_of kind arguments) ≡ true → IsPlanned v p (call_of kind arguments) reply f g → IsPlannedTurn v p (Calls kind arguments) None f g
call_waits v p kind arguments reply f g waits planned = record {
  is_next = waits_now v p kind arguments waits;
  adds = adds_as _ _ _ _ f g refl (waits_changes v p (call_of kind arguments) reply waits planned.reply_is ∙ ap (others_if v (Turn p)) (waits_now v p kind arguments waits)) planned.adds;
}

pub call_goes : (v : Contents) (p : Pid) (kind : CallKind) (arguments : List Meaning) (reply : Reply) (deed : stored.Deed) (f g : Planned) → must_wait v p (call_of kind arguments) ≡ false → deed_in deed ≡ deed_of_reply kind arguments reply
    → IsPlanned v p (call_of kind arguments) reply f g → IsPlannedTurn v p (Calls kind arguments) (Some deed) f g
call_goes v p kind arguments reply deed f g ready is planned =
    let next = comes_to v p kind arguments reply ready planned.reply_is in
    record {
      is_next = ap Some is ∙ next;
      adds = adds_as _ _ _ _ f g refl (changes_of_deed v p kind arguments reply ∙ ap (others_if v (Turn p)) next) planned.adds;
    }

-- ---- receives

pub received_others : (v : Contents) (p : Pid) (waits : Bool) (o : Option Meaning) → picked p o ≡ others_if v (Turn p) (received waits o)
received_others v p waits (Some m) = refl
received_others v p true None = refl
received_others v p false None = refl

pub receive_plans : (v : Contents) (p : Pid) (waits : Bool) (selects : Meaning → Bool) (deed : Option stored.Deed) (o found : Option Meaning) (f g : Planned) → o ≡ found → option_map deed_in deed ≡ received waits o
    → Adds (reads_to_pick p o) (picked p o) f g → Adds (reads_to_pick p found) (others_if v (Turn p) (received waits found)) f g
receive_plans v p waits selects deed o found f g is next adds =
    adds_as _ _ _ _ f g (ap (reads_to_pick p) is) (ap (picked p) is ∙ received_others v p waits found) adds

-- ---- turns of whatever is asked

pub asked_plans : (v : Contents) (p : Pid) (r a : Request) (deed : Option stored.Deed) (f g : Planned) → r ≡ a → IsPlannedTurn v p r deed f g → IsPlannedTurn v p a deed f g
asked_plans v p r a deed f g is planned = subst (λ x. IsPlannedTurn v p x deed f g) is planned

-- ---- steps of processes that live

pub if_lives : {A : Type 0} (b : Bool) (x : Option A) → b ≡ true → x ≡ (if b then x else None)
if_lives b x lives = ap (λ y. if y then x else None) (sym lives)

pub turn_steps : (a : Program) (v : Contents) (p : Pid) (deed : Option stored.Deed) (f g h : Planned) → v (cells.Alive p) ≡ true → Adds (cells.Machine p ∷ cells.Alive p ∷ []) [] f g
    → IsPlannedTurn v p (asked a p (v (cells.Machine p))) deed g h → ((rs ss : List Cell) (ks ls : List Change) → Adds rs ks f g → Adds ss ls g h → Adds (rs ++ ss) (ks ++ ls) f h) → IsPlannedStep a v (Turn p) deed f h
turn_steps a v p deed f g h lives first planned then_ =
    let next = if_lives (v (cells.Alive p)) (deed_asked v p (asked a p (v (cells.Machine p)))) lives in
    record {
      is_next = planned.is_next ∙ next;
      adds = adds_as _ _ _ _ f h refl (ap (others_if v (Turn p)) next) (then_ _ _ _ _ first planned.adds);
    }

pub delivery_steps : (a : Program) (v : Contents) (s r : Pid) (deed : Option stored.Deed) (f g h : Planned) → v (cells.Alive r) ≡ true → Adds (cells.Alive r ∷ cells.Front s r ∷ []) [] f g
    → IsPlannedDelivery v s r deed g h → ((rs ss : List Cell) (ks ls : List Change) → Adds rs ks f g → Adds ss ls g h → Adds (rs ++ ss) (ks ++ ls) f h) → IsPlannedStep a v (Deliver s r) deed f h
delivery_steps a v s r deed f g h lives first planned then_ =
    let next = if_lives (v (cells.Alive r)) (deed_delivered v s r (first_of (waiting_in v s r))) lives in
    record {
      is_next = planned.is_next ∙ next;
      adds = adds_as _ _ _ _ f h refl (ap (others_if v (Deliver s r)) next) (then_ _ _ _ _ first planned.adds);
    }

-- ---- the delivery of the oldest signal

pub signal_delivered : (v : Contents) (s r : Pid) (x : Signal) (deed : stored.Deed) (f g : Planned) → Some x ≡ first_of (waiting_in v s r) → IsPlannedSignal v s r x deed f g → IsPlannedDelivery v s r (Some deed) f g
signal_delivered v s r x deed f g first planned = record {
  is_next = ap Some planned.is_delivered ∙ ap (deed_delivered v s r) first;
  adds = adds_as _ _ _ _ f g (ap (reads_of_signal v s r) first) (ap (λ o. others_if v (Deliver s r) (deed_delivered v s r o)) first) planned.adds;
}

pub signal_planned : (v : Contents) (s r : Pid) (x : Signal) (deed : stored.Deed) (fate : Fate) (f g h : Planned) → fate ≡ fate_of v s r x → deed_in deed ≡ Delivered x fate
    → Adds (reads_of_fate v s r x) (goes_with v s r x) f g
    → Adds (reads_if_killed (after (goes_with v s r x) v) r fate) (changes_of_fate (after (goes_with v s r x) v) r fate) g h → IsPlannedSignal v s r x deed f h
signal_planned v s r x deed fate f g h is delivered first then_ =
    let w = after (goes_with v s r x) v in
    record {
      is_delivered = delivered ∙ ap (Delivered x) is;
      adds = adds_as _ _ _ _ f h (ap (λ e. reads_of_fate v s r x ++ reads_if_killed w r e) is) (ap (λ e. goes_with v s r x ++ changes_of_fate w r e) is) (adds_then _ _ _ _ f g h first then_);
    }

-- ---- last turns

pub end_plans : (v : Contents) (p : Pid) (reason : Meaning) (deed : stored.Deed) (f g : Planned) → deed_in deed ≡ Ended reason → Adds (reads_of_end v p) (left_by (changed (AliveCleared p) v) p reason) f g → IsPlannedTurn v p (Ends reason) (Some deed) f g
end_plans v p reason deed f g is adds = record { is_next = ap Some is; adds = adds }

pub runaway_plans : (v : Contents) (p : Pid) (reason : Meaning) (deed : stored.Deed) (f g : Planned) → deed_in deed ≡ RanAway → reason ≡ runaway → Adds (reads_of_end v p) (left_by (changed (AliveCleared p) v) p reason) f g → IsPlannedTurn v p RunsAway (Some deed) f g
runaway_plans v p reason deed f g is same adds = record { is_next = ap Some is; adds = adds_as _ _ _ _ f g refl (ap (left_by (changed (AliveCleared p) v) p) same) adds }
