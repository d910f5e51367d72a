-- Mailboxes and channels, by what each event brings, takes and puts.
use Rattle.std.proofs.Common.{◌≡◌, Bool, true, false, ◌&&◌, ℕ, zero, suc, ◌+◌, ◌<◌, ◌≤◌, List, [], ◌∷◌, ◌++◌, length, length-append, ap, drop, Option, Some, None, refl, sym, ◌∙◌, if◌then◌else◌, arith, append_assoc}
use Rattle.std.specs.List.{list_any}
use Rattle.std.specs.Prelude.{unwrap_or}
use Rattle.term_core.specs.Meaning.{Meaning}
use Rattle.term_core.specs.declared.step.Step.{Step}
use Rattle.term_core.specs.declared.step.Step.TheVariants.{Deliver, Turn}
use Rattle.core_calls.specs.declared.call.CallKind.{CallKind}
use Rattle.core_semantics.specs.Asked as answered
use Rattle.world_model.specs.Calls.{Call, Send, ToNobody, ToProcess, ToName, ToReference, ToNode, ToAnotherNode, SendExit, Demonitor, OnTable, call_of}
use Rattle.world_model.specs.Cells.{Machine, Taken, Mailed, Contents, Alive, Watch, Watchers, Guard, Holder, Tail, meet, Front}
use Rattle.world_model.specs.Changes.{after, WatchCleared, WatcherRemoved, GuardUnwatched, CellTouched, MessageAdded, MessageTaken, without_first, is_of_watch, changed, TurnTaken, SignalDelivered, Change, SignalPut}
use Rattle.world_model.specs.Events.{Signal, Message, Exit, History, Guarded, Fate, Delivered, Arrives, IsIgnored, IsDropped, Kills, Deed, Served, Refused, EndedItself, Ended, Received, TimedOut, RanAway, Event, Refusal}
use Rattle.world_model.specs.Guards.{aliased}
use Rattle.world_model.specs.Lines.{line}
use Rattle.world_model.specs.Mail.{mailed, mailed_if, mailed_to_holder, mailed_by_call, mailed_in, MailboxIsTold, signals_to, delivers, WaitingIsTold}
use Rattle.world_model.specs.Ends.{ends}
use Rattle.world_model.specs.Mailboxes.{left_of, mailbox_in, selected_of, picked}
use Rattle.world_model.specs.Names.{Pid, same_pid, same_term, Ref}
use Rattle.world_model.specs.ProcessLines.{sent, exited, sent_to_holder, watch_ends, send_line}
use Rattle.world_model.specs.Requests.{Program, Request, Calls, Receives, Ends, RunsAway}
use Rattle.world_model.specs.Run.{next_event, IsRun}
use Rattle.world_model.specs.Signals.{put_if, exit_message, goes_with, first_of, waiting_in}
use Rattle.world_model.specs.Steps.{changes_of_fate, changes_by, runaway, deed_delivered, next_deed, judged, ended_or, ends_itself, must_wait, received, deed_asked, asked}
use Rattle.world_model.specs.World.{contents}
use Rattle.world_model.proofs.Commuting.{stays, either_way, came}
use Rattle.world_model.proofs.EndSorts.{after_both, end_leaves}
use Rattle.world_model.proofs.Histories.{deed_is}
use Rattle.world_model.proofs.MailboxLaws.{left_last, without_behind, selected_there, without_selected, without_none}
use Rattle.world_model.proofs.Meeting.{both, pids_same}
use Rattle.world_model.proofs.SortLaws.{goes_off, call_leaves, no_mail, none_taken, no_front}
use Rattle.world_model.proofs.Sorts.{is_among, sorts_of}

-- ---- mailboxes

-- a mailbox whose two cells are left
left_alone : (v w : Contents) (q : Pid) → v (Taken q) ≡ w (Taken q) → v (Mailed q) ≡ w (Mailed q) → mailbox_in v q ≡ mailbox_in w q
left_alone v w q taken mailed = λ i. left_of (taken i) (mailed i)

-- whatever comes stays after what is there: what was taken was there
abbrev StaysBehind : List Meaning → List Meaning → Type 0
StaysBehind ts xs = (ys : List Meaning) → left_of ts (xs ++ ys) ≡ left_of ts xs ++ ys

abbrev IsSound : Contents → Pid → Type 0
IsSound v q = StaysBehind (v (Taken q)) (v (Mailed q))

mailed_by : (b : Bool) (ts xs : List Meaning) (m : Meaning) → StaysBehind ts xs → left_of ts (if b then xs ++ (m ∷ []) else xs) ≡ (if b then left_of ts xs ++ (m ∷ []) else left_of ts xs)
mailed_by true ts xs m behind = behind (m ∷ [])
mailed_by false ts xs m behind = refl

mails_mail : (p : Pid) (m : Meaning) (w : Contents) (q : Pid) → IsSound w q → mailbox_in (changed (MessageAdded p m) w) q ≡ mailed p m q (mailbox_in w q)
mails_mail p m w q sound = mailed_by (same_pid p q) (w (Taken q)) (w (Mailed q)) m sound

put_mail : (b : Bool) (s r : Pid) (x : Signal) (w : Contents) (q : Pid) → mailbox_in (after (put_if b s r x) w) q ≡ mailbox_in w q
put_mail true s r x w q = refl
put_mail false s r x w q = refl

sent_mail : (b : Bool) (v w : Contents) (p to q : Pid) (m : Meaning) → IsSound w q → mailbox_in (after (sent b v p to m) w) q ≡ mailed_if b p m q (mailbox_in w q)
sent_mail true v w p to q m sound = mails_mail p m w q sound
sent_mail false v w p to q m sound = put_mail (v (Alive to)) p to (Message m) w q

exited_mail : (b : Bool) (v w : Contents) (p to q : Pid) (m : Meaning) → IsSound w q → mailbox_in (after (exited b v p to m) w) q ≡ mailed_if b p (exit_message p m) q (mailbox_in w q)
exited_mail true v w p to q m sound = mails_mail p (exit_message p m) w q sound
exited_mail false v w p to q m sound = put_mail (v (Alive to)) p to (Exit m) w q

holder_mail : (v w : Contents) (p : Pid) (o : Option Pid) (q : Pid) (m : Meaning) → IsSound w q → mailbox_in (after (sent_to_holder v p o m) w) q ≡ mailed_to_holder o p m q (mailbox_in w q)
holder_mail v w p None q m sound = refl
holder_mail v w p (Some to) q m sound = sent_mail (same_pid p to) v w p to q m sound

-- a message by an alias is no mail yet
alias_mail : (v w : Contents) (p : Pid) (ref : Ref) (o : Option Pid) (q : Pid) (m : Meaning) → mailbox_in (after (send_line v p ref o m).changes w) q ≡ mailbox_in w q
alias_mail v w p ref None q m = refl
alias_mail v w p ref (Some to) q m = put_mail (v (Alive to)) p to (Guarded ref m) w q

ended_by_taken : (b : Bool) (p : Pid) (u : Ref) (x : Pid) (w : Contents) (q : Pid) → after (if b then WatchCleared u ∷ WatcherRemoved x u ∷ GuardUnwatched u ∷ [] else CellTouched (Watch u) ∷ CellTouched (Watchers x) ∷ []) w (Taken q) ≡ w (Taken q)
ended_by_taken true p u x w q = refl
ended_by_taken false p u x w q = refl

ended_taken : (p : Pid) (u : Ref) (o : Option Pid) (w : Contents) (q : Pid) → after (watch_ends p u o) w (Taken q) ≡ w (Taken q)
ended_taken p u None w q = refl
ended_taken p u (Some x) w q = ended_by_taken (same_pid u.pid p) p u x w q

ended_by_mail : (b : Bool) (p : Pid) (u : Ref) (x : Pid) (w : Contents) (q : Pid) → after (if b then WatchCleared u ∷ WatcherRemoved x u ∷ GuardUnwatched u ∷ [] else CellTouched (Watch u) ∷ CellTouched (Watchers x) ∷ []) w (Mailed q) ≡ w (Mailed q)
ended_by_mail true p u x w q = refl
ended_by_mail false p u x w q = refl

ended_mail : (p : Pid) (u : Ref) (o : Option Pid) (w : Contents) (q : Pid) → after (watch_ends p u o) w (Mailed q) ≡ w (Mailed q)
ended_mail p u None w q = refl
ended_mail p u (Some x) w q = ended_by_mail (same_pid u.pid p) p u x w q

pub ended_alone : (p : Pid) (u : Ref) (o : Option Pid) (w : Contents) (q : Pid) → mailbox_in (after (watch_ends p u o) w) q ≡ mailbox_in w q
ended_alone p u o w q = left_alone (after (watch_ends p u o) w) w q (ended_taken p u o w q) (ended_mail p u o w q)

-- the message that is found is taken
picked_by : (b : Bool) (ts xs : List Meaning) (m : Meaning) → left_of (if b then ts ++ (m ∷ []) else ts) xs ≡ (if b then without_first (same_term m) (left_of ts xs) else left_of ts xs)
picked_by true ts xs m = left_last ts m xs
picked_by false ts xs m = refl

picks_mail : (p : Pid) (m : Meaning) (w : Contents) (q : Pid) → mailbox_in (changed (MessageTaken p m) w) q ≡ (if same_pid p q then without_first (same_term m) (mailbox_in w q) else mailbox_in w q)
picks_mail p m w q = picked_by (same_pid p q) (w (Taken q)) (w (Mailed q)) m

where_same : (b : Bool) (xs ys zs : List Meaning) → (b ≡ true → xs ≡ ys) → (if b then xs else zs) ≡ (if b then ys else zs)
where_same true xs ys zs same = same refl
where_same false xs ys zs same = refl

picked_mail : (p q : Pid) (test : Meaning → Bool) (o : Option Meaning) (w : Contents) → selected_of test (mailbox_in w p) ≡ o → mailbox_in (after (picked p o) w) q ≡ (if same_pid p q then without_first test (mailbox_in w q) else mailbox_in w q)
picked_mail p q test None w is =
    sym (either_way (same_pid p q) (mailbox_in w q))
    ∙ where_same (same_pid p q) (mailbox_in w q) (without_first test (mailbox_in w q)) (mailbox_in w q) (λ same. sym (without_none test (mailbox_in w q) (ap (λ r. selected_of test (mailbox_in w r)) (sym (pids_same p q same)) ∙ is)))
picked_mail p q test (Some m) w is =
    picks_mail p m w q
    ∙ where_same (same_pid p q) (without_first (same_term m) (mailbox_in w q)) (without_first test (mailbox_in w q)) (mailbox_in w q) (λ same. without_selected test (mailbox_in w q) m (ap (λ r. selected_of test (mailbox_in w r)) (sym (pids_same p q same)) ∙ is))

call_alone : (v w : Contents) (p : Pid) (call : Call) (q : Pid) → is_among (sorts_of call) (Taken q) ≡ false → is_among (sorts_of call) (Mailed q) ≡ false → mailbox_in (after (line v p call).changes w) q ≡ mailbox_in w q
call_alone v w p call q taken mailed = left_alone (after (line v p call).changes w) w q (call_leaves v w p call (Taken q) taken) (call_leaves v w p call (Mailed q) mailed)

flushed_mail : (v w : Contents) (p : Pid) (u : Ref) (q : Pid) → mailbox_in w p ≡ mailbox_in v p → mailbox_in (after (line v p (Demonitor (Some u) (Some true))).changes w) q ≡ (if same_pid p q then without_first (is_of_watch u) (mailbox_in w q) else mailbox_in w q)
flushed_mail v w p u q same =
    let ks = watch_ends p u (v (Watch u)) in
    let found = selected_of (is_of_watch u) (mailbox_in v p) in
    left_alone (after (ks ++ picked p found) w) (after (picked p found) (after ks w)) q (after_both ks (picked p found) w (Taken q)) (after_both ks (picked p found) w (Mailed q))
    ∙ picked_mail p q (is_of_watch u) found (after ks w) (ap (selected_of (is_of_watch u)) (ended_alone p u (v (Watch u)) w p ∙ same))
    ∙ ap (λ xs. if same_pid p q then without_first (is_of_watch u) xs else xs) (ended_alone p u (v (Watch u)) w q)

call_mail : (h : History) (w : Contents) (p : Pid) (call : Call) (q : Pid) → mailbox_in w p ≡ mailbox_in (contents h) p → IsSound w q → mailbox_in (after (line (contents h) p call).changes w) q ≡ mailed_by_call h p call q (mailbox_in w q)
call_mail h w p (Send ToNobody m) q same sound = refl
call_mail h w p (Send (ToProcess to) m) q same sound = sent_mail (same_pid p to) (contents h) w p to q m sound
call_mail h w p (Send (ToReference ref) m) q same sound = alias_mail (contents h) w p ref (aliased (contents h (Guard ref))) q m
call_mail h w p (Send (ToName name) m) q same sound = holder_mail (contents h) w p (contents h (Holder name)) q m sound
call_mail h w p (Send (ToNode name) m) q same sound = holder_mail (contents h) w p (contents h (Holder name)) q m sound
call_mail h w p (Send ToAnotherNode m) q same sound = refl
call_mail h w p (SendExit None reason) q same sound = refl
call_mail h w p (SendExit (Some to) reason) q same sound = exited_mail (same_pid p to) (contents h) w p to q reason sound
call_mail h w p (Demonitor None flushes) q same sound = refl
call_mail h w p (Demonitor (Some u) None) q same sound = refl
call_mail h w p (Demonitor (Some u) (Some true)) q same sound = flushed_mail (contents h) w p u q same
call_mail h w p (Demonitor (Some u) (Some false)) q same sound =
    let ks = watch_ends p u (contents h (Watch u)) in
    left_alone (after (ks ++ []) w) (after ks w) q (after_both ks [] w (Taken q)) (after_both ks [] w (Mailed q)) ∙ ended_alone p u (contents h (Watch u)) w q
call_mail h w p (OnTable argument call) q same sound = call_alone (contents h) w p (OnTable argument call) q (none_taken call q) (no_mail call q)
call_mail h w p call q same sound = call_alone (contents h) w p call q refl refl

end_alone : (v w : Contents) (p : Pid) (reason : Meaning) (q : Pid) → mailbox_in (after (ends v p reason) w) q ≡ mailbox_in w q
end_alone v w p reason q = left_alone (after (ends v p reason) w) w q (end_leaves v w p reason (Taken q) refl) (end_leaves v w p reason (Mailed q) refl)

fate_mail : (h : History) (v w : Contents) (s r q : Pid) (x : Signal) (f : Fate) → IsSound w q → mailbox_in (after (changes_of_fate v r f) w) q ≡ mailed_in h (Deliver s r) (Delivered x f) q (mailbox_in w q)
fate_mail h v w s r q x (Arrives m) sound = mails_mail r m w q sound
fate_mail h v w s r q x IsIgnored sound = refl
fate_mail h v w s r q x IsDropped sound = refl
fate_mail h v w s r q x (Kills reason) sound = end_alone v w r reason q

told_mail : (h : History) (step : Step) (deed : Deed) (q : Pid) → IsSound (contents h) q → mailbox_in (after (changes_by (contents h) step deed) (contents h)) q ≡ mailed_in h step deed q (mailbox_in (contents h) q)
told_mail h (Turn p) (Served kind arguments answer) q sound = call_mail h (changed (TurnTaken p (answered.Value answer ∷ [])) (contents h)) p (call_of kind arguments) q refl sound
told_mail h (Turn p) (Refused kind arguments refusal) q sound = refl
told_mail h (Turn p) (EndedItself kind arguments reason) q sound = end_alone (contents h) (changed (TurnTaken p []) (contents h)) p reason q
told_mail h (Turn p) (Received m) q sound = picks_mail p m (changed (TurnTaken p (answered.Message m ∷ [])) (contents h)) q
told_mail h (Turn p) TimedOut q sound = refl
told_mail h (Turn p) (Ended reason) q sound = end_alone (contents h) (changed (TurnTaken p []) (contents h)) p reason q
told_mail h (Turn p) RanAway q sound = end_alone (contents h) (changed (TurnTaken p []) (contents h)) p runaway q
told_mail h (Turn p) (Delivered x f) q sound = refl
told_mail h (Deliver s r) (Delivered x f) q sound =
    let ks = goes_with (contents h) s r x in
    let ls = changes_of_fate (after ks (contents h)) r f in
    let w = changed (SignalDelivered s r) (contents h) in
    let taken = stays ks w (Taken q) (goes_off (contents h) s r x (Taken q) refl) in
    let mailed = stays ks w (Mailed q) (goes_off (contents h) s r x (Mailed q) refl) in
    left_alone (after (ks ++ ls) w) (after ls (after ks w)) q (after_both ks ls w (Taken q)) (after_both ks ls w (Mailed q))
    ∙ fate_mail h (after ks (contents h)) (after ks w) s r q x f (λ ys. (λ i. left_of (taken i) (mailed i ++ ys)) ∙ sound ys ∙ sym (λ i. left_of (taken i) (mailed i) ++ ys))
    ∙ ap (mailed_in h (Deliver s r) (Delivered x f) q) (left_alone (after ks w) w q taken mailed)
told_mail h (Deliver s r) deed q sound = refl

-- ---- what was taken was there

-- where nothing is taken
kept : (ks : List Change) (w : Contents) (q : Pid) → after ks w (Taken q) ≡ w (Taken q) → IsSound w q → IsSound (after ks w) q
kept ks w q same sound =
    let more = came ks w q in
    let ts = w (Taken q) in
    let xs = w (Mailed q) in
    λ ys.
    (λ i. left_of (same i) (more.1 i ++ ys))
    ∙ ap (left_of ts) (append_assoc xs more.0 ys)
    ∙ sound (more.0 ++ ys)
    ∙ sym (append_assoc (left_of ts xs) more.0 ys)
    ∙ ap (λ zs. zs ++ ys) (sym (sound more.0))
    ∙ sym (λ i. left_of (same i) (more.1 i) ++ ys)

picks_by : (b : Bool) (ts xs : List Meaning) (m : Meaning) → StaysBehind ts xs → (b ≡ true → list_any (same_term m) (left_of ts xs) ≡ true) → StaysBehind (if b then ts ++ (m ∷ []) else ts) xs
picks_by true ts xs m sound is =
    λ ys.
    left_last ts m (xs ++ ys)
    ∙ ap (without_first (same_term m)) (sound ys)
    ∙ without_behind (same_term m) (left_of ts xs) ys (is refl)
    ∙ ap (λ zs. zs ++ ys) (sym (left_last ts m xs))
picks_by false ts xs m sound is = sound

picks_sound : (p : Pid) (m : Meaning) (w : Contents) (q : Pid) → list_any (same_term m) (mailbox_in w p) ≡ true → IsSound w q → IsSound (changed (MessageTaken p m) w) q
picks_sound p m w q is sound = picks_by (same_pid p q) (w (Taken q)) (w (Mailed q)) m sound (λ same. ap (λ r. list_any (same_term m) (mailbox_in w r)) (sym (pids_same p q same)) ∙ is)

picked_sound : (p q : Pid) (test : Meaning → Bool) (o : Option Meaning) (w : Contents) → selected_of test (mailbox_in w p) ≡ o → IsSound w q → IsSound (after (picked p o) w) q
picked_sound p q test None w is sound = sound
picked_sound p q test (Some m) w is sound = picks_sound p m w q (selected_there test (mailbox_in w p) m is) sound

flushed_sound : (v w : Contents) (p : Pid) (u : Ref) (q : Pid) → mailbox_in w p ≡ mailbox_in v p → IsSound w q → IsSound (after (line v p (Demonitor (Some u) (Some true))).changes w) q
flushed_sound v w p u q same sound =
    let ks = watch_ends p u (v (Watch u)) in
    let found = selected_of (is_of_watch u) (mailbox_in v p) in
    let there = picked_sound p q (is_of_watch u) found (after ks w) (ap (selected_of (is_of_watch u)) (ended_alone p u (v (Watch u)) w p ∙ same)) (kept ks w q (ended_taken p u (v (Watch u)) w q) sound) in
    let taken = after_both ks (picked p found) w (Taken q) in
    let mailed = after_both ks (picked p found) w (Mailed q) in
    λ ys. (λ i. left_of (taken i) (mailed i ++ ys)) ∙ there ys ∙ sym (λ i. left_of (taken i) (mailed i) ++ ys)

call_kept : (v w : Contents) (p : Pid) (call : Call) (q : Pid) → is_among (sorts_of call) (Taken q) ≡ false → IsSound w q → IsSound (after (line v p call).changes w) q
call_kept v w p call q other sound = kept (line v p call).changes w q (call_leaves v w p call (Taken q) other) sound

call_sound : (v w : Contents) (p : Pid) (call : Call) (q : Pid) → mailbox_in w p ≡ mailbox_in v p → IsSound w q → IsSound (after (line v p call).changes w) q
call_sound v w p (Demonitor None flushes) q same sound = sound
call_sound v w p (Demonitor (Some u) None) q same sound = sound
call_sound v w p (Demonitor (Some u) (Some true)) q same sound = flushed_sound v w p u q same sound
call_sound v w p (Demonitor (Some u) (Some false)) q same sound =
    let ks = watch_ends p u (v (Watch u)) in
    kept (ks ++ []) w q (after_both ks [] w (Taken q) ∙ ended_taken p u (v (Watch u)) w q) sound
call_sound v w p (OnTable argument call) q same sound = call_kept v w p (OnTable argument call) q (none_taken call q) sound
call_sound v w p call q same sound = call_kept v w p call q refl sound

end_sound : (v w : Contents) (p : Pid) (reason : Meaning) (q : Pid) → IsSound w q → IsSound (after (ends v p reason) w) q
end_sound v w p reason q sound = kept (ends v p reason) w q (end_leaves v w p reason (Taken q) refl) sound

fate_taken : (v w : Contents) (r q : Pid) (f : Fate) → after (changes_of_fate v r f) w (Taken q) ≡ w (Taken q)
fate_taken v w r q (Arrives m) = refl
fate_taken v w r q IsIgnored = refl
fate_taken v w r q IsDropped = refl
fate_taken v w r q (Kills reason) = end_leaves v w r reason (Taken q) refl

-- a message that is received is there
abbrev TakesThere : Contents → Step → Deed → Type 0
TakesThere v step deed = (p : Pid) (m : Meaning) → step ≡ Turn p → deed ≡ Received m → list_any (same_term m) (mailbox_in v p) ≡ true

event_sound : (v : Contents) (step : Step) (deed : Deed) (q : Pid) → TakesThere v step deed → IsSound v q → IsSound (after (changes_by v step deed) v) q
event_sound v (Turn p) (Served kind arguments answer) q there sound = call_sound v (changed (TurnTaken p (answered.Value answer ∷ [])) v) p (call_of kind arguments) q refl sound
event_sound v (Turn p) (Refused kind arguments refusal) q there sound = sound
event_sound v (Turn p) (EndedItself kind arguments reason) q there sound = end_sound v (changed (TurnTaken p []) v) p reason q sound
event_sound v (Turn p) (Received m) q there sound = picks_sound p m (changed (TurnTaken p (answered.Message m ∷ [])) v) q (there p m refl refl) sound
event_sound v (Turn p) TimedOut q there sound = sound
event_sound v (Turn p) (Ended reason) q there sound = end_sound v (changed (TurnTaken p []) v) p reason q sound
event_sound v (Turn p) RanAway q there sound = end_sound v (changed (TurnTaken p []) v) p runaway q sound
event_sound v (Turn p) (Delivered x f) q there sound = sound
event_sound v (Deliver s r) (Delivered x f) q there sound =
    let ks = goes_with v s r x in
    let ls = changes_of_fate (after ks v) r f in
    let w = changed (SignalDelivered s r) v in
    kept (ks ++ ls) w q (after_both ks ls w (Taken q) ∙ fate_taken (after ks v) (after ks w) r q f ∙ stays ks w (Taken q) (goes_off v s r x (Taken q) refl)) sound
event_sound v (Deliver s r) deed q there sound = sound

received_in : Deed → Option Meaning
received_in (Received m) = Some m
received_in deed = None

nothing_in : {A : Type 0} {x : A} → None ≡ Some x → ⊥
nothing_in e = absurd cc

judged_takes : (kind : CallKind) (arguments : List Meaning) (o : Option Refusal) (x m : Meaning) → received_in (judged kind arguments o x) ≡ Some m → ⊥
unfolding received_in
judged_takes kind arguments None x m is = absurd cc
judged_takes kind arguments (Some refusal) x m is = absurd cc

ended_takes : (kind : CallKind) (arguments : List Meaning) (end : Option Meaning) (o : Option Refusal) (x m : Meaning) → received_in (ended_or kind arguments end (judged kind arguments o x)) ≡ Some m → ⊥
unfolding received_in
ended_takes kind arguments None o x m is = judged_takes kind arguments o x m is
ended_takes kind arguments (Some reason) o x m is = absurd cc

waited_takes : (b : Bool) (d e : Deed) (m : Meaning) → (if b then None else Some d) ≡ Some e → received_in e ≡ Some m → received_in d ≡ Some m
unfolding received_in
waited_takes true d e m now is = absurd cc
waited_takes false d e m now is = ap (λ o. received_in (unwrap_or o d)) now ∙ is

received_takes : (waits : Bool) (o : Option Meaning) (e : Deed) (m : Meaning) → received waits o ≡ Some e → received_in e ≡ Some m → o ≡ Some m
unfolding received_in
received_takes waits (Some x) e m now is = ap (λ o. received_in (unwrap_or o (Received x))) now ∙ is
received_takes true None e m now is = absurd cc
received_takes false None e m now is = absurd (nothing_in (ap (λ o. received_in (unwrap_or o TimedOut)) now ∙ is))

asked_takes : (v : Contents) (p : Pid) (r : Request) (e : Deed) (m : Meaning) → deed_asked v p r ≡ Some e → received_in e ≡ Some m → list_any (same_term m) (mailbox_in v p) ≡ true
unfolding received_in
asked_takes v p (Calls kind arguments) e m now is =
    let call = call_of kind arguments in
    absurd (ended_takes kind arguments (ends_itself v p call) (line v p call).refusal (line v p call).answer m (waited_takes (must_wait v p call) (ended_or kind arguments (ends_itself v p call) (judged kind arguments (line v p call).refusal (line v p call).answer)) e m now is))
asked_takes v p (Receives waits selects) e m now is = selected_there selects (mailbox_in v p) m (received_takes waits (selected_of selects (mailbox_in v p)) e m now is)
asked_takes v p (Ends reason) e m now is = absurd (nothing_in (ap (λ o. received_in (unwrap_or o (Ended reason))) now ∙ is))
asked_takes v p RunsAway e m now is = absurd (nothing_in (ap (λ o. received_in (unwrap_or o RanAway)) now ∙ is))

turn_takes : (v : Contents) (b : Bool) (p : Pid) (r : Request) (e : Deed) (m : Meaning) → (if b then deed_asked v p r else None) ≡ Some e → received_in e ≡ Some m → list_any (same_term m) (mailbox_in v p) ≡ true
turn_takes v true p r e m now is = asked_takes v p r e m now is
turn_takes v false p r e m now is = absurd cc

event_takes : (a : Program) (h : History) (e : Event) → next_event a h e.step ≡ Some e → TakesThere (contents h) e.step e.deed
unfolding received_in
event_takes a h e now = λ p m is deed.
    let there : next_deed a (contents h) (Turn p) ≡ Some e.deed = ap (next_deed a (contents h)) (sym is) ∙ deed_is e.step (next_deed a (contents h) e.step) e now in
    turn_takes (contents h) (contents h (Alive p)) p (asked a p (contents h (Machine p))) e.deed m there (ap received_in deed)

run_sound : (a : Program) (h : History) → IsRun a h → (q : Pid) → IsSound (contents h) q
unfolding contents
run_sound a [] is q = λ ys. refl
run_sound a (e ∷ h) is q = event_sound (contents h) e.step e.deed q (event_takes a h e is.0) (run_sound a h is.1 q)

pub mailbox_told : MailboxIsTold
unfolding contents
mailbox_told a h e q is = told_mail h e.step e.deed q (run_sound a h is q)

-- ---- channels

-- what is put comes last
put_by : (b : Bool) (xs : List Signal) (x : Signal) (rest : List Signal) → (if b then xs ++ (x ∷ []) else xs) ++ rest ≡ xs ++ (if b then x ∷ rest else rest)
put_by true xs x rest = append_assoc xs (x ∷ []) rest
put_by false xs x rest = refl

pub nothing_more : (xs : List Signal) → xs ≡ xs ++ []
nothing_more [] = refl
nothing_more (x ∷ xs) = ap (λ ys. x ∷ ys) (nothing_more xs)

one_put : (k : Change) (ks : List Change) (v : Contents) (s r : Pid) → changed k v (Tail s r) ++ signals_to s r ks ≡ v (Tail s r) ++ signals_to s r (k ∷ ks)
one_put (SignalPut t u x) ks v s r = put_by (same_pid t s && same_pid u r) (v (Tail s r)) x (signals_to s r ks)
one_put (CellTouched c) ks v s r = ap (λ xs. xs ++ signals_to s r ks) (either_way (meet c (Tail s r)) (v (Tail s r)))
one_put k ks v s r = refl

pub tail_told : (ks : List Change) (v : Contents) (s r : Pid) → after ks v (Tail s r) ≡ v (Tail s r) ++ signals_to s r ks
tail_told [] v s r = nothing_more (v (Tail s r))
tail_told (k ∷ ks) v s r = tail_told ks (changed k v) s r ∙ one_put k ks v s r

-- only a delivery takes from the front
call_front : (v w : Contents) (p : Pid) (call : Call) (s r : Pid) → after (line v p call).changes w (Front s r) ≡ w (Front s r)
call_front v w p (OnTable argument call) s r = call_leaves v w p (OnTable argument call) (Front s r) (no_front call s r)
call_front v w p call s r = call_leaves v w p call (Front s r) refl

fate_front : (v w : Contents) (u s r : Pid) (f : Fate) → after (changes_of_fate v u f) w (Front s r) ≡ w (Front s r)
fate_front v w u s r (Arrives m) = refl
fate_front v w u s r IsIgnored = refl
fate_front v w u s r IsDropped = refl
fate_front v w u s r (Kills reason) = end_leaves v w u reason (Front s r) refl

fetched_by : (b : Bool) (n : ℕ) → (if b then n + 1 else n) ≡ n + (if b then 1 else 0)
fetched_by true n = refl
fetched_by false n = omega arith

nothing_added : (n : ℕ) → n ≡ n + 0
nothing_added n = omega arith

front_told : (v : Contents) (step : Step) (deed : Deed) (s r : Pid) → after (changes_by v step deed) v (Front s r) ≡ v (Front s r) + delivers step deed s r
front_told v (Turn p) (Served kind arguments answer) s r = call_front v _ p (call_of kind arguments) s r ∙ nothing_added (v (Front s r))
front_told v (Turn p) (Refused kind arguments refusal) s r = nothing_added (v (Front s r))
front_told v (Turn p) (EndedItself kind arguments reason) s r = end_leaves v (changed (TurnTaken p []) v) p reason (Front s r) refl ∙ nothing_added (v (Front s r))
front_told v (Turn p) (Received m) s r = nothing_added (v (Front s r))
front_told v (Turn p) TimedOut s r = nothing_added (v (Front s r))
front_told v (Turn p) (Ended reason) s r = end_leaves v (changed (TurnTaken p []) v) p reason (Front s r) refl ∙ nothing_added (v (Front s r))
front_told v (Turn p) RanAway s r = end_leaves v (changed (TurnTaken p []) v) p runaway (Front s r) refl ∙ nothing_added (v (Front s r))
front_told v (Turn p) (Delivered x f) s r = nothing_added (v (Front s r))
front_told v (Deliver t u) (Delivered x f) s r =
    let ks = goes_with v t u x in
    let w = changed (SignalDelivered t u) v in
    after_both ks (changes_of_fate (after ks v) u f) w (Front s r) ∙ fate_front (after ks v) (after ks w) u s r f ∙ stays ks w (Front s r) (goes_off v t u x (Front s r) refl) ∙ fetched_by (same_pid t s && same_pid u r) (v (Front s r))
front_told v (Deliver t u) deed s r = nothing_added (v (Front s r))

-- at most as much is delivered as was put
drop_more : (n m : ℕ) (xs ys : List Signal) → n ≤ length xs → drop (n + m) (xs ++ ys) ≡ drop m (drop n xs ++ ys)
drop_more zero m xs ys le = let same : 0 + m ≡ m = omega arith in ap (λ k. drop k (xs ++ ys)) same
drop_more (suc n) m [] ys le = absurd (omega arith)
drop_more (suc n) m (x ∷ xs) ys le = let same : suc n + m ≡ suc (n + m) = omega arith in ap (λ k. drop k (x ∷ (xs ++ ys))) same ∙ drop_more n m xs ys (omega (arith, le))

waits_below : (n : ℕ) (xs : List Signal) (x : Signal) → first_of (drop n xs) ≡ Some x → n < length xs
waits_below zero [] x is = absurd cc
waits_below zero (y ∷ xs) x is = omega arith
waits_below (suc n) [] x is = absurd cc
waits_below (suc n) (y ∷ xs) x is = let le = waits_below n xs x is in omega (arith, le)

IsCounted : Contents → Type 0
IsCounted v = (s r : Pid) → v (Front s r) ≤ length (v (Tail s r))

taken_by : (v : Contents) (t u s r : Pid) (b : Bool) → (same_pid t s && same_pid u r) ≡ b → v (Front s r) ≤ length (v (Tail s r)) → v (Front t u) < length (v (Tail t u)) → v (Front s r) + (if b then 1 else 0) ≤ length (v (Tail s r))
taken_by v t u s r true is le there =
    let parts = both (same_pid t s) (same_pid u r) is in
    let front : v (Front t u) ≡ v (Front s r) = λ i. v (Front (pids_same t s parts.0 i) (pids_same u r parts.1 i)) in
    let tail : length (v (Tail t u)) ≡ length (v (Tail s r)) = λ i. length (v (Tail (pids_same t s parts.0 i) (pids_same u r parts.1 i))) in
    omega (arith, front, tail, there)
taken_by v t u s r false is le there = omega (arith, le)

delivers_there : (v : Contents) (step : Step) (deed : Deed) (s r : Pid) → IsCounted v → ((t u : Pid) → step ≡ Deliver t u → v (Front t u) < length (v (Tail t u))) → v (Front s r) + delivers step deed s r ≤ length (v (Tail s r))
unfolding IsCounted
delivers_there v (Turn p) deed s r counted there = let le = counted s r in omega (arith, le)
delivers_there v (Deliver t u) (Delivered x f) s r counted there = taken_by v t u s r (same_pid t s && same_pid u r) refl (counted s r) (there t u refl)
delivers_there v (Deliver t u) deed s r counted there = let le = counted s r in omega (arith, le)

there_by : (b : Bool) (v : Contents) (s r : Pid) (o : Option Signal) (d : Deed) → (if b then deed_delivered v s r o else None) ≡ Some d → (x : Signal) × (o ≡ Some x)
there_by true v s r None d now = absurd cc
there_by true v s r (Some x) d now = (x, refl)
there_by false v s r o d now = absurd cc

enabled_there : (a : Program) (h : History) (e : Event) → next_event a h e.step ≡ Some e → (t u : Pid) → e.step ≡ Deliver t u → contents h (Front t u) < length (contents h (Tail t u))
enabled_there a h e now t u is =
    let deed = ap (next_deed a (contents h)) (sym is) ∙ deed_is e.step (next_deed a (contents h) e.step) e now in
    let by = there_by (contents h (Alive u)) (contents h) t u (first_of (waiting_in (contents h) t u)) e.deed deed in
    waits_below (contents h (Front t u)) (contents h (Tail t u)) by.0 by.1

run_counted : (a : Program) (h : History) → IsRun a h → IsCounted (contents h)
unfolding contents IsCounted
run_counted a [] is s r = omega arith
run_counted a (e ∷ h) is s r =
    let ks = changes_by (contents h) e.step e.deed in
    let front = front_told (contents h) e.step e.deed s r in
    let tail = ap length (tail_told ks (contents h) s r) in
    let long = length-append (contents h (Tail s r)) (signals_to s r ks) in
    let le = delivers_there (contents h) e.step e.deed s r (run_counted a h is.1) (enabled_there a h e is.0) in
    omega (arith, front, tail, long, le)

pub waiting_told : WaitingIsTold
unfolding contents IsCounted
waiting_told a h e s r is =
    let ks = changes_by (contents h) e.step e.deed in
    (λ i. drop (front_told (contents h) e.step e.deed s r i) (tail_told ks (contents h) s r i))
    ∙ drop_more (contents h (Front s r)) (delivers e.step e.deed s r) (contents h (Tail s r)) (signals_to s r ks) (run_counted a h is s r)
