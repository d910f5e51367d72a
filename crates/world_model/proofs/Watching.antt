-- The watches of a process are those that are of it.
use Rattle.std.proofs.Common.{◌≡◌, Bool, true, false, [], ◌∷◌, Option, Some, None, refl, sym, ap, ◌∙◌, if◌then◌else◌}
use Rattle.term_core.specs.Meaning.{Meaning}
use Rattle.term_core.specs.declared.step.Step.{Step}
use Rattle.term_core.specs.declared.step.Step.TheVariants.{Turn, Deliver}
use Rattle.core_semantics.specs.Asked as answered
use Rattle.world_model.specs.Calls.{Call, Spawn, SpawnWay, Alone, Linked, Watched, Monitor, MonitorName, Demonitor, OnTable, TableCall, First, call_of}
use Rattle.world_model.specs.Cells.{Contents, Alive, Watch, Watchers, Guard, Holder}
use Rattle.world_model.specs.Changes.{MachineStarted, AliveSet, WatchCleared, WatcherRemoved, GuardSet, GuardCleared, GuardUnwatched, CellTouched, TurnTaken, SignalDelivered, after, changed, is_of_watch}
use Rattle.world_model.specs.Ends.{ends}
use Rattle.world_model.specs.Events.{Deed, Served, Refused, EndedItself, Ended, Received, TimedOut, RanAway, Delivered, Signal, Message, Exit, LinkExit, Down, Guarded, Elapsed, Fate, Arrives, IsIgnored, IsDropped, Kills}
use Rattle.world_model.specs.Guards.{ends_by_reply}
use Rattle.world_model.specs.Lines.{line}
use Rattle.world_model.specs.Mailboxes.{mailbox_in, selected_of}
use Rattle.world_model.specs.Names.{Name, Pid, Ref, same_pid, same_ref}
use Rattle.world_model.specs.ProcessLines.{bound, flushed, gone_told, next_child, next_ref, watch_begins, watch_ends, alias_begins, alias_beside, named_guard, named_line}
use Rattle.world_model.specs.Signals.{goes_with, reply_ends}
use Rattle.world_model.specs.Steps.{changes_of_fate, changes_by, runaway}
use Rattle.world_model.specs.ProcessHistory.{is_it}
use Rattle.world_model.specs.declared.alias.AliasEnd.{AliasEnd}
use Rattle.world_model.proofs.Commuting.{either_way}
use Rattle.world_model.proofs.EndSorts.{after_both, end_leaves}
use Rattle.world_model.proofs.Listed.{AreListed, all_listed}
use Rattle.world_model.proofs.Matching.{Match, match_same, match_moves, gained_has, lost_has}
use Rattle.world_model.proofs.SortLaws.{call_leaves, no_watch}
use Rattle.world_model.proofs.Sorts.{is_among, table_sorts}

abbrev pub Known : Contents → Type 0
Known v = Match (λ q. v (Watchers q)) (λ ref. v (Watch ref))

known_same : (v w : Contents) → ((q : Pid) → w (Watchers q) ≡ v (Watchers q)) → ((ref : Ref) → w (Watch ref) ≡ v (Watch ref)) → Known v → Known w
known_same v w lists all before_ = match_same (λ q. v (Watchers q)) (λ q. w (Watchers q)) (λ ref. v (Watch ref)) (λ ref. w (Watch ref)) lists all before_

-- ---- one watch begins, or ends

begins_known : (w : Contents) (u : Ref) (q : Pid) → w (Watch u) ≡ None → Known w → Known (after (watch_begins u q) w)
begins_known w u q none before_ =
    match_moves (λ x. w (Watchers x)) (λ x. after (watch_begins u q) w (Watchers x)) (λ t. w (Watch t)) (λ t. after (watch_begins u q) w (Watch t)) u (Some q) (λ x. same_pid q x) (λ x. false)
    (λ x t. gained_has (same_pid q x) u t (w (Watchers x))) (λ t. refl) (λ x. refl) (λ x is. sym (ap (λ o. is_it o x) none) ∙ is) before_

-- it is of nobody else than this process
abbrev pub IsOf : Contents → Ref → Pid → Type 0
IsOf v u s = (x : Pid) → is_it (v (Watch u)) x ≡ true → same_pid s x ≡ true

ends_known : (w : Contents) (u : Ref) (s : Pid) → AreListed w → IsOf w u s → Known w → Known (after (WatchCleared u ∷ WatcherRemoved s u ∷ []) w)
ends_known w u s sorted of before_ =
    let ks = WatchCleared u ∷ WatcherRemoved s u ∷ [] in
    match_moves (λ x. w (Watchers x)) (λ x. after ks w (Watchers x)) (λ t. w (Watch t)) (λ t. after ks w (Watch t)) u None (λ x. false) (λ x. same_pid s x)
    (λ x t. lost_has (same_pid s x) u t (w (Watchers x)) (sorted.watches x)) (λ t. refl) (λ x. refl) of before_

-- ---- calls

bound_known : (way : SpawnWay) (p child : Pid) (u : Ref) (w : Contents) → w (Watch u) ≡ None → Known w → Known (after (bound way p child u) w)
bound_known Alone p child u w none before_ = before_
bound_known Linked p child u w none before_ = before_
bound_known Watched p child u w none before_ = begins_known w u child none before_

gone_watchers : (b : Bool) (p q : Pid) (u : Ref) (w : Contents) (x : Pid) → after (gone_told b p q u) w (Watchers x) ≡ w (Watchers x)
gone_watchers true p q u w x = refl
gone_watchers false p q u w x = refl

gone_watch : (b : Bool) (p q : Pid) (u : Ref) (w : Contents) (t : Ref) → after (gone_told b p q u) w (Watch t) ≡ w (Watch t)
gone_watch true p q u w t = refl
gone_watch false p q u w t = refl

begins_watchers : (p : Pid) (u : Ref) (o : Option AliasEnd) (w : Contents) (x : Pid) → after (alias_begins p u o) w (Watchers x) ≡ w (Watchers x)
begins_watchers p u None w x = refl
begins_watchers p u (Some end) w x = refl

begins_watch : (p : Pid) (u : Ref) (o : Option AliasEnd) (w : Contents) (t : Ref) → after (alias_begins p u o) w (Watch t) ≡ w (Watch t)
begins_watch p u None w t = refl
begins_watch p u (Some end) w t = refl

-- a reply ends the watch of its alias
reply_known : (b : Bool) (u : Ref) (o : Option Pid) (w : Contents) → w (Watch u) ≡ o → AreListed w → Known w → Known (after (reply_ends b u o) w)
reply_known true u None w is sorted before_ = known_same w (after (GuardCleared u ∷ []) w) (λ x. refl) (λ t. refl) before_
reply_known true u (Some q) w is sorted before_ =
    let cleared = changed (GuardCleared u) w in
    ends_known cleared u q (all_listed (GuardCleared u ∷ []) w sorted) (λ x now. sym (ap (λ o. is_it o x) is) ∙ now) (known_same w cleared (λ x. refl) (λ t. refl) before_)
reply_known false u o w is sorted before_ = before_

flush_watchers : (b : Bool) (p : Pid) (o : Option Meaning) (w : Contents) (x : Pid) → after (flushed b p o) w (Watchers x) ≡ w (Watchers x)
flush_watchers false p o w x = refl
flush_watchers true p None w x = refl
flush_watchers true p (Some m) w x = refl

flush_watch : (b : Bool) (p : Pid) (o : Option Meaning) (w : Contents) (t : Ref) → after (flushed b p o) w (Watch t) ≡ w (Watch t)
flush_watch false p o w t = refl
flush_watch true p None w t = refl
flush_watch true p (Some m) w t = refl

ended_by : (b : Bool) (u : Ref) (q : Pid) (w : Contents) → AreListed w → IsOf w u q → Known w → Known (after (if b then WatchCleared u ∷ WatcherRemoved q u ∷ GuardUnwatched u ∷ [] else CellTouched (Watch u) ∷ CellTouched (Watchers q) ∷ []) w)
ended_by true u q w sorted of before_ = known_same (after (WatchCleared u ∷ WatcherRemoved q u ∷ []) w) (after (WatchCleared u ∷ WatcherRemoved q u ∷ GuardUnwatched u ∷ []) w) (λ x. refl) (λ t. refl) (ends_known w u q sorted of before_)
ended_by false u q w sorted of before_ = known_same w (after (CellTouched (Watch u) ∷ CellTouched (Watchers q) ∷ []) w) (λ x. either_way (same_pid q x) (w (Watchers x))) (λ t. either_way (same_ref u t) (w (Watch t))) before_

watch_ended : (p : Pid) (u : Ref) (o : Option Pid) (w : Contents) → w (Watch u) ≡ o → AreListed w → Known w → Known (after (watch_ends p u o) w)
watch_ended p u None w is sorted before_ = known_same w (after (CellTouched (Watch u) ∷ []) w) (λ x. refl) (λ t. either_way (same_ref u t) (w (Watch t))) before_
watch_ended p u (Some q) w is sorted before_ = ended_by (same_pid u.pid p) u q w sorted (λ x now. sym (ap (λ o. is_it o x) is) ∙ now) before_

no_watchers : (call : TableCall) (q : Pid) → is_among (table_sorts call) (Watchers q) ≡ false
no_watchers First q = refl
no_watchers call q = refl

named_known : (v w : Contents) (p : Pid) (name : Name) (u : Ref) (alias : Option AliasEnd) (o : Option Pid) → w (Watch u) ≡ None → Known w → Known (after (named_line v p name u alias o).changes w)
named_known v w p name u alias None none before_ =
    let begun = changed (GuardSet u (named_guard p name alias)) (after (watch_begins u p) w) in
    known_same (after (watch_begins u p) w) (after (named_line v p name u alias None).changes w) (λ x. gone_watchers false p p u begun x) (λ t. gone_watch false p p u begun t) (begins_known w u p none before_)
named_known v w p name u alias (Some q) none before_ =
    let begun = changed (GuardSet u (named_guard p name (alias_beside (same_pid p q) alias))) (after (watch_begins u q) w) in
    known_same (after (watch_begins u q) w) (after (named_line v p name u alias (Some q)).changes w) (λ x. gone_watchers (v (Alive q)) p q u begun x) (λ t. gone_watch (v (Alive q)) p q u begun t) (begins_known w u q none before_)

call_known : (v w : Contents) (p : Pid) (call : Call) → ((u : Ref) → w (Watch u) ≡ v (Watch u)) → w (Watch (next_ref v p)) ≡ None → AreListed w → Known w → Known (after (line v p call).changes w)
call_known v w p (Spawn way None) same none sorted before_ = before_
call_known v w p (Spawn way (Some origin)) same none sorted before_ = bound_known way p (next_child v p) (next_ref v p) (changed (AliveSet (next_child v p)) (changed (MachineStarted (next_child v p) origin) w)) none before_
call_known v w p (Monitor is_process None alias) same none sorted before_ = before_
call_known v w p (Monitor false (Some q) alias) same none sorted before_ = before_
call_known v w p (Monitor true (Some q) None) same none sorted before_ = before_
call_known v w p (Monitor true (Some q) (Some alias)) same none sorted before_ =
    let u = next_ref v p in
    let mid = after (watch_begins u q) w in
    let told = gone_told (v (Alive q)) p q u in
    let begun = alias_beside (same_pid p q) alias in
    known_same mid (after (line v p (Monitor true (Some q) (Some alias))).changes w)
    (λ x. after_both (alias_begins p u begun) told mid (Watchers x) ∙ gone_watchers (v (Alive q)) p q u (after (alias_begins p u begun) mid) x ∙ begins_watchers p u begun mid x)
    (λ t. after_both (alias_begins p u begun) told mid (Watch t) ∙ gone_watch (v (Alive q)) p q u (after (alias_begins p u begun) mid) t ∙ begins_watch p u begun mid t)
    (begins_known w u q none before_)
call_known v w p (MonitorName false name alias) same none sorted before_ = before_
call_known v w p (MonitorName true name None) same none sorted before_ = before_
call_known v w p (MonitorName true name (Some alias)) same none sorted before_ = named_known v w p name (next_ref v p) alias (v (Holder name)) none before_
call_known v w p (Demonitor None flushes) same none sorted before_ = before_
call_known v w p (Demonitor (Some u) None) same none sorted before_ = before_
call_known v w p (Demonitor (Some u) (Some flushes)) same none sorted before_ =
    let ks = watch_ends p u (v (Watch u)) in
    let found = selected_of (is_of_watch u) (mailbox_in v p) in
    known_same (after ks w) (after (line v p (Demonitor (Some u) (Some flushes))).changes w)
    (λ x. after_both ks (flushed flushes p found) w (Watchers x) ∙ flush_watchers flushes p found (after ks w) x)
    (λ t. after_both ks (flushed flushes p found) w (Watch t) ∙ flush_watch flushes p found (after ks w) t)
    (watch_ended p u (v (Watch u)) w (same u) sorted before_)
call_known v w p (OnTable argument call) same none sorted before_ = known_same w (after (line v p (OnTable argument call)).changes w) (λ x. call_leaves v w p (OnTable argument call) (Watchers x) (no_watchers call x)) (λ t. call_leaves v w p (OnTable argument call) (Watch t) (no_watch call t)) before_
call_known v w p call same none sorted before_ = known_same w (after (line v p call).changes w) (λ x. call_leaves v w p call (Watchers x) refl) (λ t. call_leaves v w p call (Watch t) refl) before_

-- ---- every event

end_known : (v w : Contents) (p : Pid) (reason : Meaning) → Known w → Known (after (ends v p reason) w)
end_known v w p reason before_ = known_same w (after (ends v p reason) w) (λ x. end_leaves v w p reason (Watchers x) refl) (λ t. end_leaves v w p reason (Watch t) refl) before_

fate_known : (v w : Contents) (r : Pid) (f : Fate) → Known w → Known (after (changes_of_fate v r f) w)
fate_known v w r (Arrives m) before_ = before_
fate_known v w r IsIgnored before_ = before_
fate_known v w r IsDropped before_ = before_
fate_known v w r (Kills reason) before_ = end_known v w r reason before_

-- the signal of a watch comes from the process that it is of
abbrev pub ComesFrom : Contents → Pid → Signal → Type 0
ComesFrom v s (Down ref reason) = IsOf v ref s
ComesFrom v s x = Unit {0}

goes_known : (v : Contents) (s r : Pid) (x : Signal) (w : Contents) → ((u : Ref) → w (Watch u) ≡ v (Watch u)) → AreListed w → ComesFrom w s x → Known w → Known (after (goes_with v s r x) w)
goes_known v s r (Message m) w same sorted from before_ = before_
goes_known v s r (Exit reason) w same sorted from before_ = before_
goes_known v s r (LinkExit reason) w same sorted from before_ = before_
goes_known v s r (Down ref reason) w same sorted from before_ = known_same (after (WatchCleared ref ∷ WatcherRemoved s ref ∷ []) w) (after (goes_with v s r (Down ref reason)) w) (λ x. refl) (λ t. refl) (ends_known w ref s sorted from before_)
goes_known v s r (Guarded ref m) w same sorted from before_ = reply_known (ends_by_reply r (v (Guard ref))) ref (v (Watch ref)) w (same ref) sorted before_
goes_known v s r (Elapsed ref m) w same sorted from before_ = known_same w (after (goes_with v s r (Elapsed ref m)) w) (λ x. refl) (λ t. refl) before_

abbrev pub IsFrom : Contents → Step → Deed → Type 0
IsFrom v (Deliver s r) (Delivered x f) = ComesFrom v s x
IsFrom v step deed = Unit {0}

fetched_from : (s r t : Pid) (x : Signal) (v : Contents) → ComesFrom v t x → ComesFrom (changed (SignalDelivered s r) v) t x
fetched_from s r t (Message m) v from = tt
fetched_from s r t (Exit reason) v from = tt
fetched_from s r t (LinkExit reason) v from = tt
fetched_from s r t (Down ref reason) v from = from
fetched_from s r t (Guarded ref m) v from = tt
fetched_from s r t (Elapsed ref m) v from = tt

pub event_known : (v : Contents) (step : Step) (deed : Deed) → ((p : Pid) → v (Watch (next_ref v p)) ≡ None) → AreListed v → IsFrom v step deed → Known v → Known (after (changes_by v step deed) v)
event_known v (Turn p) (Served kind arguments answer) free sorted from before_ = call_known v (changed (TurnTaken p (answered.Value answer ∷ [])) v) p (call_of kind arguments) (λ u. refl) (free p) (all_listed (TurnTaken p (answered.Value answer ∷ []) ∷ []) v sorted) before_
event_known v (Turn p) (Refused kind arguments refusal) free sorted from before_ = before_
event_known v (Turn p) (EndedItself kind arguments reason) free sorted from before_ = end_known v (changed (TurnTaken p []) v) p reason before_
event_known v (Turn p) (Received m) free sorted from before_ = before_
event_known v (Turn p) TimedOut free sorted from before_ = before_
event_known v (Turn p) (Ended reason) free sorted from before_ = end_known v (changed (TurnTaken p []) v) p reason before_
event_known v (Turn p) RanAway free sorted from before_ = end_known v (changed (TurnTaken p []) v) p runaway before_
event_known v (Turn p) (Delivered x f) free sorted from before_ = before_
event_known v (Deliver s r) (Delivered x f) free sorted from before_ =
    let ks = goes_with v s r x in
    let w = changed (SignalDelivered s r) v in
    known_same (after (changes_of_fate (after ks v) r f) (after ks w)) (after (changes_by v (Deliver s r) (Delivered x f)) v)
    (λ q. after_both ks (changes_of_fate (after ks v) r f) w (Watchers q)) (λ t. after_both ks (changes_of_fate (after ks v) r f) w (Watch t))
    (fate_known (after ks v) (after ks w) r f (goes_known v s r x w (λ u. refl) (all_listed (SignalDelivered s r ∷ []) v sorted) (fetched_from s r s x v from) before_))
event_known v (Deliver s r) deed free sorted from before_ = before_
