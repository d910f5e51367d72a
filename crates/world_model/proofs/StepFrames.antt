-- The law of frames of turns and deliveries.
use Rattle.std.proofs.Common.{◌∙◌, ap, refl, sym}
use Rattle.std.specs.List.{list_any}
use Rattle.std.specs.Prelude.{◌&&◌, not, ◌∷◌, if◌then◌else◌, ◌≡◌, ◌++◌, Bool, true, false, Some, None, is_some, List, Option, [], option_map, drop}
use Rattle.term_core.specs.Meaning.{Meaning}
use Rattle.term_core.specs.declared.step.Step.{Step}
use Rattle.term_core.specs.declared.step.Step.TheVariants.{Turn, Deliver}
use Rattle.core_calls.specs.declared.call.CallKind.{CallKind}
use Rattle.core_semantics.specs.Asked as answered
use Rattle.world_model.specs.Calls.{Call, SendExit, IsAlive, ProcessInfo, call_of}
use Rattle.world_model.specs.Cells.{Contents, Trap, Alive, Machine, Front, Links, Watch, Guard}
use Rattle.world_model.specs.Changes.{TurnTaken, Change, after, SignalDelivered}
use Rattle.world_model.specs.Ends.{reads_of_end}
use Rattle.world_model.specs.Events.{Exit, Refusal, Served, EndedItself, Ended, Deed, RanAway, Signal, Message, LinkExit, Down, Guarded, Elapsed, Fate, Arrives, IsIgnored, IsDropped, Kills, Delivered}
use Rattle.world_model.specs.Frames.{Sees, AgreeOn}
use Rattle.world_model.specs.Guards.{is_alias_of, ends_by_reply, timer_in, watch_name}
use Rattle.world_model.specs.Lines.{line}
use Rattle.world_model.specs.Mailboxes.{mailbox_in, selected_of, reads_to_pick}
use Rattle.world_model.specs.Names.{Pid, same_pid}
use Rattle.world_model.specs.ProcessLines.{info_line, read_of_target}
use Rattle.world_model.specs.Requests.{Request, Calls, Receives, Ends, RunsAway, Program}
use Rattle.world_model.specs.Signals.{reads_of_fate, trap_if, fate_of, exit_fate, link_fate, down_fate, guarded_fate, watched_as, watch_if, reply_ends, goes_with, first_of, waiting_in}
use Rattle.world_model.specs.Steps.{own_end, ends_itself, reads, must_wait, judged, reads_if_ended, ended_or, deed_asked, asked, reads_of_request, reads_of_call, received, runaway, reads_if_killed, changes_of_fate, deed_delivered, reads_of_signal}
use Rattle.world_model.specs.declared.process.ProcessItem.{ProcessItem}
use Rattle.world_model.proofs.CallFrames.{call_framed, selected_framed, reply_framed}
use Rattle.world_model.proofs.EndFrames.{ends_framed, same_of, SameOn, same_after_both}
use Rattle.world_model.proofs.Outcomes.{with_changes, Outcome, outcome}
use Rattle.world_model.proofs.TableFrames.{agree_parts}

-- ---- calls

-- whether a call ends its caller, and whether it waits
kills_framed : (v w : Contents) (p to : Pid) (reason : Meaning) (b : Bool) → AgreeOn v w (read_of_target b p to) → own_end b (v (Trap p)) p reason ≡ own_end b (w (Trap p)) p reason
kills_framed v w p to reason true agree = ap (λ traps. own_end true traps p reason) agree.0.0
kills_framed v w p to reason false agree = refl

ends_itself_framed : (v w : Contents) (p : Pid) (call : Call) → AgreeOn v w (line v p call).reads → ends_itself v p call ≡ ends_itself w p call
ends_itself_framed v w p (SendExit (Some q) reason) agree = kills_framed v w p q reason (same_pid p q) agree
ends_itself_framed v w p (SendExit None reason) agree = refl
ends_itself_framed v w p call agree = refl

told_framed : (v w : Contents) (p q : Pid) (item : ProcessItem) (b : Bool) → AgreeOn v w (info_line b v p q item).reads → (not b && (v (Alive q) && is_some (first_of (waiting_in v p q)))) ≡ (not b && (w (Alive q) && is_some (first_of (waiting_in w p q))))
told_framed v w p q item true agree = refl
told_framed v w p q item false agree = λ i. agree.0.0 i && is_some (first_of (drop (agree.1.0.0 i) (agree.1.1.0.0 i)))

must_wait_framed : (v w : Contents) (p : Pid) (call : Call) → AgreeOn v w (line v p call).reads → must_wait v p call ≡ must_wait w p call
must_wait_framed v w p (IsAlive (Some q)) agree = λ i. agree.0.0 i && is_some (first_of (drop (agree.1.0.0 i) (agree.1.1.0.0 i)))
must_wait_framed v w p (IsAlive None) agree = refl
must_wait_framed v w p (ProcessInfo None item) agree = refl
must_wait_framed v w p (ProcessInfo (Some q) None) agree = refl
must_wait_framed v w p (ProcessInfo (Some q) (Some item)) agree = told_framed v w p q item (same_pid p q) agree
must_wait_framed v w p call agree = refl

-- what a call results in
judged_framed : (v w : Contents) (p : Pid) (kind : CallKind) (arguments : List Meaning) (r : Option Refusal) (x : Meaning) → line v p (call_of kind arguments) ≡ line w p (call_of kind arguments) → with_changes v (Turn p) (judged kind arguments r x) ≡ with_changes w (Turn p) (judged kind arguments r x)
judged_framed v w p kind arguments None x same = λ i. (Served kind arguments x, TurnTaken p (answered.Value x ∷ []) ∷ (same i).changes)
judged_framed v w p kind arguments (Some refusal) x same = refl

ended_framed : (v w : Contents) (p : Pid) (kind : CallKind) (arguments : List Meaning) (o : Option Meaning) (r : Option Refusal) (x : Meaning) → line v p (call_of kind arguments) ≡ line w p (call_of kind arguments) → AgreeOn v w (reads_if_ended v p o) → (with_changes v (Turn p) (ended_or kind arguments o (judged kind arguments r x)) ≡ with_changes w (Turn p) (ended_or kind arguments o (judged kind arguments r x))) × (reads_if_ended v p o ≡ reads_if_ended w p o)
ended_framed v w p kind arguments None r x same agree = (judged_framed v w p kind arguments r x same, refl)
ended_framed v w p kind arguments (Some reason) r x same agree =
    let end = ends_framed v w p reason (same_of v w (reads_of_end v p) agree) in
    ((λ i. (EndedItself kind arguments reason, TurnTaken p [] ∷ end.0 i)), end.1)

waiting_framed : (v w : Contents) (s : Step) (b : Bool) (d : Deed) → with_changes v s d ≡ with_changes w s d → option_map (with_changes v s) (if b then None else Some d) ≡ option_map (with_changes w s) (if b then None else Some d)
waiting_framed v w s true d same = refl
waiting_framed v w s false d same = ap Some same

-- what a turn of a process that asks this results in
abbrev comes : Contents → Pid → Request → Option Outcome
comes v p q = option_map (with_changes v (Turn p)) (deed_asked v p q)

abbrev IsFramed : Contents → Contents → Pid → Request → Type 0
IsFramed v w p q = (comes v p q ≡ comes w p q) × (reads_of_request v p q ≡ reads_of_request w p q)

call_framed_too : (v w : Contents) (p : Pid) (kind : CallKind) (arguments : List Meaning) → v (Machine p) ≡ w (Machine p) → AgreeOn v w (reads_of_call v p (call_of kind arguments)) → IsFramed v w p (Calls kind arguments)
call_framed_too v w p kind arguments machine agree =
    let call = call_of kind arguments in
    let parts = agree_parts v w (line v p call).reads (reads_if_ended v p (ends_itself v p call)) agree in
    let same = call_framed v w p call machine parts.0 in
    let itself = ends_itself_framed v w p call parts.0 in
    let waits = must_wait_framed v w p call parts.0 in
    let ended = ended_framed v w p kind arguments (ends_itself v p call) (line v p call).refusal (line v p call).answer same parts.1 in (
      waiting_framed v w (Turn p) (must_wait v p call) (ended_or kind arguments (ends_itself v p call) (judged kind arguments (line v p call).refusal (line v p call).answer)) ended.0 ∙ (λ i. option_map (with_changes w (Turn p)) (if waits i then None else Some (ended_or kind arguments (itself i) (judged kind arguments (same i).refusal (same i).answer)))),
      (λ i. (same i).reads ++ (ended.1 ∙ ap (reads_if_ended w p) itself) i),
    )

received_framed : (v w : Contents) (p : Pid) (waits : Bool) (o : Option Meaning) → option_map (with_changes v (Turn p)) (received waits o) ≡ option_map (with_changes w (Turn p)) (received waits o)
received_framed v w p waits (Some m) = refl
received_framed v w p true None = refl
received_framed v w p false None = refl

request_framed : (v w : Contents) (p : Pid) (q : Request) → v (Machine p) ≡ w (Machine p) → AgreeOn v w (reads_of_request v p q) → IsFramed v w p q
request_framed v w p (Calls kind arguments) machine agree = call_framed_too v w p kind arguments machine agree
request_framed v w p (Receives waits selects) machine agree =
    let same = selected_framed v w p selects agree in
    (received_framed v w p waits (selected_of selects (mailbox_in v p)) ∙ (λ i. option_map (with_changes w (Turn p)) (received waits (same i))), ap (reads_to_pick p) same)
request_framed v w p (Ends reason) machine agree =
    let end = ends_framed v w p reason (same_of v w (reads_of_end v p) agree) in
    ((λ i. Some ((Ended reason, TurnTaken p [] ∷ end.0 i))), end.1)
request_framed v w p RunsAway machine agree =
    let end = ends_framed v w p runaway (same_of v w (reads_of_end v p) agree) in
    ((λ i. Some ((RanAway, TurnTaken p [] ∷ end.0 i))), end.1)

-- ---- turns

where_enabled : (v w : Contents) (s : Step) (b : Bool) (d e : Option Deed) → option_map (with_changes v s) d ≡ option_map (with_changes w s) e → option_map (with_changes v s) (if b then d else None) ≡ option_map (with_changes w s) (if b then e else None)
where_enabled v w s true d e same = same
where_enabled v w s false d e same = refl

turn_framed : (a : Program) (v w : Contents) (p : Pid) → AgreeOn v w (reads a v (Turn p)) → (outcome a v (Turn p) ≡ outcome a w (Turn p)) × (reads a v (Turn p) ≡ reads a w (Turn p))
turn_framed a v w p agree =
    let machine = agree.0.0 in
    let asks = ap (asked a p) machine in
    let same = request_framed v w p (asked a p (v (Machine p))) machine agree.1.1 in
    (where_enabled v w (Turn p) (v (Alive p)) (deed_asked v p (asked a p (v (Machine p)))) (deed_asked w p (asked a p (v (Machine p)))) same.0 ∙ (λ i. option_map (with_changes w (Turn p)) (if agree.1.0.0 i then deed_asked w p (asks i) else None)), ap (λ cs. Machine p ∷ Alive p ∷ cs) (same.1 ∙ ap (reads_of_request w p) asks))

-- ---- deliveries

-- the flag is read where the link is there, and else it makes no difference
link_framed : (v w : Contents) (s r : Pid) (reason : Meaning) (stands : Bool) → AgreeOn v w (trap_if stands r) → link_fate stands (v (Trap r)) s reason ≡ link_fate stands (w (Trap r)) s reason
link_framed v w s r reason true agree = ap (λ traps. link_fate true traps s reason) agree.0.0
link_framed v w s r reason false agree = refl

fate_framed : (v w : Contents) (s r : Pid) (x : Signal) → AgreeOn v w (reads_of_fate v s r x) → fate_of v s r x ≡ fate_of w s r x
fate_framed v w s r (Message m) agree = refl
fate_framed v w s r (Exit reason) agree = λ i. exit_fate (agree.0.0 i) false s reason
fate_framed v w s r (LinkExit reason) agree = link_framed v w s r reason (list_any (same_pid s) (v (Links r))) agree.1.1 ∙ ap (λ qs. link_fate (list_any (same_pid s) qs) (w (Trap r)) s reason) agree.0.0
fate_framed v w s r (Down ref reason) agree = λ i. down_fate (agree.0.0 i) ref (watched_as s (watch_name (agree.1.1.0.0 i))) reason
fate_framed v w s r (Guarded ref m) agree = λ i. guarded_fate (is_alias_of r (agree.0.0 i)) m
fate_framed v w s r (Elapsed ref m) agree = λ i. guarded_fate (is_some (timer_in (agree.0.0 i))) m

fate_reads_framed : (v w : Contents) (s r : Pid) (x : Signal) → AgreeOn v w (reads_of_fate v s r x) → reads_of_fate v s r x ≡ reads_of_fate w s r x
fate_reads_framed v w s r (Message m) agree = refl
fate_reads_framed v w s r (Exit reason) agree = refl
fate_reads_framed v w s r (LinkExit reason) agree = ap (λ qs. Links r ∷ Links s ∷ trap_if (list_any (same_pid s) qs) r) agree.0.0
fate_reads_framed v w s r (Down ref reason) agree = refl
fate_reads_framed v w s r (Guarded ref m) agree = λ i. Guard ref ∷ watch_if (ends_by_reply r (agree.0.0 i)) ref
fate_reads_framed v w s r (Elapsed ref m) agree = refl

-- what goes with it is settled too
goes_framed : (v w : Contents) (s r : Pid) (x : Signal) → AgreeOn v w (reads_of_fate v s r x) → goes_with v s r x ≡ goes_with w s r x
goes_framed v w s r (Message m) agree = refl
goes_framed v w s r (Exit reason) agree = refl
goes_framed v w s r (LinkExit reason) agree = refl
goes_framed v w s r (Down ref reason) agree = refl
goes_framed v w s r (Guarded ref m) agree = reply_framed v w ref (ends_by_reply r (v (Guard ref))) agree.1 ∙ (λ i. reply_ends (ends_by_reply r (agree.0.0 i)) ref (w (Watch ref)))
goes_framed v w s r (Elapsed ref m) agree = refl

effect_framed : (ks : List Change) (v w : Contents) (r : Pid) (f : Fate) → SameOn v w (reads_if_killed (after ks v) r f) → (changes_of_fate (after ks v) r f ≡ changes_of_fate (after ks w) r f) × (reads_if_killed (after ks v) r f ≡ reads_if_killed (after ks w) r f)
effect_framed ks v w r (Arrives m) same = (refl, refl)
effect_framed ks v w r IsIgnored same = (refl, refl)
effect_framed ks v w r IsDropped same = (refl, refl)
effect_framed ks v w r (Kills reason) same = ends_framed (after ks v) (after ks w) r reason (same_after_both ks v w (reads_of_end (after ks v) r) same)

abbrev delivers : Contents → Pid → Pid → Option Signal → Option Outcome
delivers v s r o = option_map (with_changes v (Deliver s r)) (deed_delivered v s r o)

signal_framed : (v w : Contents) (s r : Pid) (o : Option Signal) → AgreeOn v w (reads_of_signal v s r o) → (delivers v s r o ≡ delivers w s r o) × (reads_of_signal v s r o ≡ reads_of_signal w s r o)
signal_framed v w s r None agree = (refl, refl)
signal_framed v w s r (Some x) agree =
    let ks = goes_with v s r x in
    let parts = agree_parts v w (reads_of_fate v s r x) (reads_if_killed (after ks v) r (fate_of v s r x)) agree in
    let fates = fate_framed v w s r x parts.0 in
    let effect = effect_framed ks v w r (fate_of v s r x) (same_of v w (reads_if_killed (after ks v) r (fate_of v s r x)) parts.1) in
    let goes = goes_framed v w s r x parts.0 in (
      (λ i. Some ((Delivered x (fates i), SignalDelivered s r ∷ (goes i ++ (effect.0 ∙ (λ j. changes_of_fate (after (goes j) w) r (fates j))) i)))),
      (λ i. fate_reads_framed v w s r x parts.0 i ++ (effect.1 ∙ (λ j. reads_if_killed (after (goes j) w) r (fates j))) i),
    )

first_framed : (v w : Contents) (s r : Pid) (o : Option Signal) → first_of (waiting_in v s r) ≡ o → Sees v w (Front s r) → AgreeOn v w (reads_of_signal v s r o) → first_of (waiting_in w s r) ≡ o
first_framed v w s r None is front agree = sym (λ i. first_of (drop (front.0 i) (agree.0.0 i))) ∙ is
first_framed v w s r (Some x) is front agree = front.1 x is

delivery_framed : (a : Program) (v w : Contents) (s r : Pid) → AgreeOn v w (reads a v (Deliver s r)) → (outcome a v (Deliver s r) ≡ outcome a w (Deliver s r)) × (reads a v (Deliver s r) ≡ reads a w (Deliver s r))
delivery_framed a v w s r agree =
    let first = sym (first_framed v w s r (first_of (waiting_in v s r)) refl agree.1.0 agree.1.1) in
    let signal = signal_framed v w s r (first_of (waiting_in v s r)) agree.1.1 in
    (where_enabled v w (Deliver s r) (v (Alive r)) (deed_delivered v s r (first_of (waiting_in v s r))) (deed_delivered w s r (first_of (waiting_in v s r))) signal.0 ∙ (λ i. option_map (with_changes w (Deliver s r)) (if agree.0.0 i then deed_delivered w s r (first i) else None)), ap (λ cs. Alive r ∷ Front s r ∷ cs) (signal.1 ∙ ap (reads_of_signal w s r) first))

pub frames : (a : Program) (v w : Contents) (s : Step) → AgreeOn v w (reads a v s) → (outcome a v s ≡ outcome a w s) × (reads a v s ≡ reads a w s)
frames a v w (Turn p) agree = turn_framed a v w p agree
frames a v w (Deliver s r) agree = delivery_framed a v w s r agree
