-- Links, watches and names, by the latest event about each.
use Rattle.std.proofs.Common.{not, ◌≡◌, Bool, true, false, ◌&&◌, List, [], ◌∷◌, ◌++◌, ap, Option, Some, None, refl, sym, ◌∙◌, if◌then◌else◌}
use Rattle.std.specs.Prelude.{ℕ, is_some}
use Rattle.term_core.specs.Meaning.{Meaning}
use Rattle.term_core.specs.declared.step.Step.{Step}
use Rattle.term_core.specs.declared.step.Step.TheVariants.{Deliver, Turn}
use Rattle.world_model.specs.Bonds.{set_if, paired_by_way, linked_by_call, way_now, linked_in, LinkedIsTold, watched_by_call, watched_in, WatchedIsTold, cleared_if, unaliased_if, unwatched_if, named_alias, named_target, guarded_by_call, guarded_in, GuardedIsTold, vacated, held_by_call, name_of_ended, held_in, HolderIsTold}
use Rattle.world_model.specs.Calls.{Link, Call, MakeAlias, Unalias, StartTimer, CancelTimer, ReadTimer, Spawn, Alone, Linked, Watched, Unlink, OnTable, call_of, Monitor, MonitorName, Demonitor, Register, Unregister}
use Rattle.world_model.specs.Cells.{Cell, Links, Table, Contents, Watch, Watchers, Guard, Alive, Holder, NameOf, Owned}
use Rattle.world_model.specs.Changes.{is_of_watch, after, changed, TurnTaken, SignalDelivered, WatchCleared, WatcherRemoved, GuardSet, GuardCleared, GuardUnwatched, CellTouched, Change, AliveCleared, MachineHalted, OwnedCleared}
use Rattle.world_model.specs.Ends.{ends, passed, table_passes, living_heir, tables_pass, partners_told, watchers_told, name_left}
use Rattle.world_model.specs.Events.{History, Fate, Signal, Delivered, Message, Exit, LinkExit, Down, Guarded, Elapsed, Arrives, IsIgnored, IsDropped, Kills, Deed, Served, Refused, EndedItself, Ended, Received, TimedOut, RanAway}
use Rattle.world_model.specs.Guards as guards
use Rattle.world_model.specs.Guards.{aliased, is_alias_of, is_of_reply, ends_by_reply, timer_in, watch_name}
use Rattle.world_model.specs.Lines.{line}
use Rattle.world_model.specs.Mailboxes.{mailbox_in, selected_of}
use Rattle.world_model.specs.Names.{Pid, same_pid, Ref, same_ref, Name, same_name}
use Rattle.world_model.specs.ProcessLines.{LinkWay, link_changes, Stands, Pairs, PairsGone, Fails, watch_ends, flushed, gone_told, next_child, next_ref, watch_begins, unregister_line, alias_begins, alias_beside, alias_goes, named_guard, named_line, timer_message}
use Rattle.world_model.specs.Signals.{goes_with, put_if, reply_ends}
use Rattle.world_model.specs.Steps.{changes_of_fate, changes_by, runaway}
use Rattle.world_model.specs.Tables as tables
use Rattle.world_model.specs.Tables.{Heir}
use Rattle.world_model.specs.ProcessHistory.{ended_in}
use Rattle.world_model.specs.World.{contents}
use Rattle.world_model.specs.declared.alias.AliasEnd.{AliasEnd}
use Rattle.world_model.proofs.Commuting.{either_way, stays, follows}
use Rattle.world_model.proofs.EndSorts.{end_leaves, after_both}
use Rattle.world_model.proofs.Meeting.{refs_same, pids_same}
use Rattle.world_model.proofs.SortLaws.{goes_off, reply_off, call_leaves, no_link, no_watch, no_guard, AllAmong, among_if, among_both, put_among, untouched_by, no_holder}
use Rattle.world_model.proofs.Sorts.{is_among}

-- ---- links

link_told : (h : History) (w : Contents) (p q x : Pid) (way : LinkWay) → after (link_changes p q way) w (Links x) ≡ paired_by_way way p q x (w (Links x))
link_told h w p q x Stands = either_way (same_pid q x) _ ∙ either_way (same_pid p x) (w (Links x))
link_told h w p q x Pairs = refl
link_told h w p q x PairsGone = refl
link_told h w p q x Fails = refl

call_linked : (h : History) (w : Contents) (p : Pid) (call : Call) (x : Pid) → after (line (contents h) p call).changes w (Links x) ≡ linked_by_call h p call x (w (Links x))
call_linked h w p (Spawn Alone None) x = refl
call_linked h w p (Spawn Linked None) x = refl
call_linked h w p (Spawn Watched None) x = refl
call_linked h w p (Spawn Alone (Some origin)) x = refl
call_linked h w p (Spawn Linked (Some origin)) x = refl
call_linked h w p (Spawn Watched (Some origin)) x = refl
call_linked h w p (Link None) x = refl
call_linked h w p (Link (Some q)) x = link_told h w p q x (way_now h p q)
call_linked h w p (Unlink None) x = refl
call_linked h w p (Unlink (Some q)) x = refl
call_linked h w p (OnTable argument call) x = call_leaves (contents h) w p (OnTable argument call) (Links x) (no_link call x)
call_linked h w p call x = call_leaves (contents h) w p call (Links x) refl

goes_linked : (s r x : Pid) (f : Fate) (signal : Signal) (h : History) (w : Contents) → after (goes_with (contents h) s r signal) w (Links x) ≡ linked_in h (Deliver s r) (Delivered signal f) x (w (Links x))
goes_linked s r x f (Message m) h w = refl
goes_linked s r x f (Exit reason) h w = refl
goes_linked s r x f (LinkExit reason) h w = refl
goes_linked s r x f (Down ref reason) h w = refl
goes_linked s r x f (Guarded ref m) h w = stays (goes_with (contents h) s r (Guarded ref m)) w (Links x) (reply_off (ends_by_reply r (contents h (Guard ref))) ref (contents h (Watch ref)) (Links x) refl)
goes_linked s r x f (Elapsed ref m) h w = refl

fate_linked : (v w : Contents) (r x : Pid) (f : Fate) → after (changes_of_fate v r f) w (Links x) ≡ w (Links x)
fate_linked v w r x (Arrives m) = refl
fate_linked v w r x IsIgnored = refl
fate_linked v w r x IsDropped = refl
fate_linked v w r x (Kills reason) = end_leaves v w r reason (Links x) refl

told_linked : (h : History) (step : Step) (deed : Deed) (x : Pid) → after (changes_by (contents h) step deed) (contents h) (Links x) ≡ linked_in h step deed x (contents h (Links x))
told_linked h (Turn p) (Served kind arguments answer) x = call_linked h _ p (call_of kind arguments) x
told_linked h (Turn p) (Refused kind arguments refusal) x = refl
told_linked h (Turn p) (EndedItself kind arguments reason) x = end_leaves (contents h) (changed (TurnTaken p []) (contents h)) p reason (Links x) refl
told_linked h (Turn p) (Received m) x = refl
told_linked h (Turn p) TimedOut x = refl
told_linked h (Turn p) (Ended reason) x = end_leaves (contents h) (changed (TurnTaken p []) (contents h)) p reason (Links x) refl
told_linked h (Turn p) RanAway x = end_leaves (contents h) (changed (TurnTaken p []) (contents h)) p runaway (Links x) refl
told_linked h (Turn p) (Delivered signal f) x = refl
told_linked h (Deliver s r) (Delivered signal f) x =
    let ks = goes_with (contents h) s r signal in
    let w = changed (SignalDelivered s r) (contents h) in
    after_both ks (changes_of_fate (after ks (contents h)) r f) w (Links x) ∙ fate_linked (after ks (contents h)) (after ks w) r x f ∙ goes_linked s r x f signal h w
told_linked h (Deliver s r) deed x = refl

pub linked_told : LinkedIsTold
unfolding contents
linked_told h e x = told_linked h e.step e.deed x

-- ---- watches

-- what is not there need not end
ends_if : (b d : Bool) (there : Option Pid) → (d ≡ true → there ≡ None) → there ≡ (if b && d then None else there)
ends_if true true there none = none refl
ends_if true false there none = refl
ends_if false d there none = refl

-- a reply that ends an alias ends its watch
reply_watched : (b : Bool) (u ref : Ref) (o : Option Pid) (w : Contents) → w (Watch u) ≡ o → after (reply_ends b u o) w (Watch ref) ≡ (if b && same_ref u ref then None else w (Watch ref))
reply_watched true u ref None w is = ends_if true (same_ref u ref) (w (Watch ref)) (λ same. ap (λ r. w (Watch r)) (sym (refs_same u ref same)) ∙ is)
reply_watched true u ref (Some q) w is = refl
reply_watched false u ref o w is = refl

put_leaves : (b : Bool) (s r : Pid) (x : Signal) (w : Contents) (c : Cell) → is_among (5 ∷ []) c ≡ false → after (put_if b s r x) w c ≡ w c
put_leaves b s r x w c other = stays (put_if b s r x) w c (untouched_by (5 ∷ []) (put_if b s r x) c (put_among (5 ∷ []) b s r x refl) other)

watch_left : (p : Pid) (u ref : Ref) (b : Bool) (q : Pid) (w : Contents) → after (if b then WatchCleared u ∷ WatcherRemoved q u ∷ GuardUnwatched u ∷ [] else CellTouched (Watch u) ∷ CellTouched (Watchers q) ∷ []) w (Watch ref) ≡ (if b && same_ref u ref then None else w (Watch ref))
watch_left p u ref true q w = refl
watch_left p u ref false q w = either_way (same_ref u ref) (w (Watch ref))

watch_told : (p : Pid) (u ref : Ref) (o : Option Pid) (w : Contents) → w (Watch u) ≡ o → after (watch_ends p u o) w (Watch ref) ≡ (if same_pid u.pid p && same_ref u ref then None else w (Watch ref))
watch_told p u ref None w is = either_way (same_ref u ref) (w (Watch ref)) ∙ ends_if (same_pid u.pid p) (same_ref u ref) (w (Watch ref)) (λ same. ap (λ r. w (Watch r)) (sym (refs_same u ref same)) ∙ is)
watch_told p u ref (Some q) w is = watch_left p u ref (same_pid u.pid p) q w

flush_told : (b : Bool) (p : Pid) (o : Option Meaning) (ref : Ref) (w : Contents) → after (flushed b p o) w (Watch ref) ≡ w (Watch ref)
flush_told false p o ref w = refl
flush_told true p None ref w = refl
flush_told true p (Some m) ref w = refl

alias_leaves : (p : Pid) (u : Ref) (o : Option AliasEnd) (w : Contents) (ref : Ref) → after (alias_begins p u o) w (Watch ref) ≡ w (Watch ref)
alias_leaves p u None w ref = refl
alias_leaves p u (Some end) w ref = refl

gone_watched : (b : Bool) (p q : Pid) (u ref : Ref) (w : Contents) → after (gone_told b p q u) w (Watch ref) ≡ w (Watch ref)
gone_watched true p q u ref w = refl
gone_watched false p q u ref w = refl

named_watched : (v w : Contents) (p : Pid) (name : Name) (u : Ref) (alias : Option AliasEnd) (o : Option Pid) (ref : Ref) → after (named_line v p name u alias o).changes w (Watch ref) ≡ (if same_ref u ref then Some (named_target p o) else w (Watch ref))
named_watched v w p name u alias None ref = gone_watched false p p u ref (changed (GuardSet u (named_guard p name alias)) (after (watch_begins u p) w))
named_watched v w p name u alias (Some q) ref = gone_watched (v (Alive q)) p q u ref (changed (GuardSet u (named_guard p name (alias_beside (same_pid p q) alias))) (after (watch_begins u q) w))

call_watched : (h : History) (w : Contents) (p : Pid) (call : Call) (ref : Ref) → ((u : Ref) → w (Watch u) ≡ contents h (Watch u)) → after (line (contents h) p call).changes w (Watch ref) ≡ watched_by_call h p call ref (w (Watch ref))
call_watched h w p (Spawn Alone None) ref same = refl
call_watched h w p (Spawn Linked None) ref same = refl
call_watched h w p (Spawn Watched None) ref same = refl
call_watched h w p (Spawn Alone (Some origin)) ref same = refl
call_watched h w p (Spawn Linked (Some origin)) ref same = refl
call_watched h w p (Spawn Watched (Some origin)) ref same = refl
call_watched h w p (Monitor true None alias) ref same = refl
call_watched h w p (Monitor false None alias) ref same = refl
call_watched h w p (Monitor false (Some q) alias) ref same = refl
call_watched h w p (Monitor true (Some q) None) ref same = refl
call_watched h w p (Monitor true (Some q) (Some alias)) ref same =
    let u = next_ref (contents h) p in
    let mid = after (watch_begins u q) w in
    let begun = alias_beside (same_pid p q) alias in
    after_both (alias_begins p u begun) (gone_told (contents h (Alive q)) p q u) mid (Watch ref) ∙ gone_watched (contents h (Alive q)) p q u ref (after (alias_begins p u begun) mid) ∙ alias_leaves p u begun mid ref
call_watched h w p (MonitorName false name alias) ref same = refl
call_watched h w p (MonitorName true name None) ref same = refl
call_watched h w p (MonitorName true name (Some alias)) ref same = named_watched (contents h) w p name (next_ref (contents h) p) alias (contents h (Holder name)) ref
call_watched h w p (Demonitor None flushes) ref same = refl
call_watched h w p (Demonitor (Some u) None) ref same = refl
call_watched h w p (Demonitor (Some u) (Some flushes)) ref same =
    let ks = watch_ends p u (contents h (Watch u)) in
    let found = selected_of (is_of_watch u) (mailbox_in (contents h) p) in
    after_both ks (flushed flushes p found) w (Watch ref) ∙ flush_told flushes p found ref (after ks w) ∙ watch_told p u ref (contents h (Watch u)) w (same u)
call_watched h w p (OnTable argument call) ref same = call_leaves (contents h) w p (OnTable argument call) (Watch ref) (no_watch call ref)
call_watched h w p call ref same = call_leaves (contents h) w p call (Watch ref) refl

goes_watched : (s r : Pid) (ref : Ref) (f : Fate) (signal : Signal) (h : History) (w : Contents) → ((u : Ref) → w (Watch u) ≡ contents h (Watch u)) → after (goes_with (contents h) s r signal) w (Watch ref) ≡ watched_in h (Deliver s r) (Delivered signal f) ref (w (Watch ref))
goes_watched s r ref f (Message m) h w same = refl
goes_watched s r ref f (Exit reason) h w same = refl
goes_watched s r ref f (LinkExit reason) h w same = refl
goes_watched s r ref f (Down u reason) h w same = refl
goes_watched s r ref f (Guarded u m) h w same = reply_watched (ends_by_reply r (contents h (Guard u))) u ref (contents h (Watch u)) w (same u)
goes_watched s r ref f (Elapsed u m) h w same = refl

fate_watched : (v w : Contents) (r : Pid) (ref : Ref) (f : Fate) → after (changes_of_fate v r f) w (Watch ref) ≡ w (Watch ref)
fate_watched v w r ref (Arrives m) = refl
fate_watched v w r ref IsIgnored = refl
fate_watched v w r ref IsDropped = refl
fate_watched v w r ref (Kills reason) = end_leaves v w r reason (Watch ref) refl

told_watched : (h : History) (step : Step) (deed : Deed) (ref : Ref) → after (changes_by (contents h) step deed) (contents h) (Watch ref) ≡ watched_in h step deed ref (contents h (Watch ref))
told_watched h (Turn p) (Served kind arguments answer) ref = call_watched h _ p (call_of kind arguments) ref (λ u. refl)
told_watched h (Turn p) (Refused kind arguments refusal) ref = refl
told_watched h (Turn p) (EndedItself kind arguments reason) ref = end_leaves (contents h) (changed (TurnTaken p []) (contents h)) p reason (Watch ref) refl
told_watched h (Turn p) (Received m) ref = refl
told_watched h (Turn p) TimedOut ref = refl
told_watched h (Turn p) (Ended reason) ref = end_leaves (contents h) (changed (TurnTaken p []) (contents h)) p reason (Watch ref) refl
told_watched h (Turn p) RanAway ref = end_leaves (contents h) (changed (TurnTaken p []) (contents h)) p runaway (Watch ref) refl
told_watched h (Turn p) (Delivered signal f) ref = refl
told_watched h (Deliver s r) (Delivered signal f) ref =
    let ks = goes_with (contents h) s r signal in
    let w = changed (SignalDelivered s r) (contents h) in
    after_both ks (changes_of_fate (after ks (contents h)) r f) w (Watch ref) ∙ fate_watched (after ks (contents h)) (after ks w) r ref f ∙ goes_watched s r ref f signal h w (λ u. refl)
told_watched h (Deliver s r) deed ref = refl

pub watched_told : WatchedIsTold
unfolding contents
watched_told h e ref = told_watched h e.step e.deed ref

-- ---- guards

reply_guarded : (b : Bool) (u ref : Ref) (o : Option Pid) (w : Contents) → after (reply_ends b u o) w (Guard ref) ≡ cleared_if (b && same_ref u ref) (w (Guard ref))
reply_guarded true u ref None w = refl
reply_guarded true u ref (Some q) w = refl
reply_guarded false u ref o w = refl

none_begun : (is_own : Bool) (p : Pid) (u : Ref) (w : Contents) (c : Cell) → after (alias_begins p u (alias_beside is_own None)) w c ≡ w c
none_begun true p u w c = refl
none_begun false p u w c = refl

begun_beside : (is_own : Bool) (p : Pid) (u ref : Ref) (end : AliasEnd) (w : Contents) → after (alias_begins p u (alias_beside is_own (Some end))) w (Guard ref) ≡ set_if (not is_own && same_ref u ref) (guards.Alias p end) (w (Guard ref))
begun_beside true p u ref end w = refl
begun_beside false p u ref end w = refl

begun_guarded : (h : History) (p q : Pid) (o : Option AliasEnd) (w : Contents) (ref : Ref) → after (alias_begins p (next_ref (contents h) p) (alias_beside (same_pid p q) o)) w (Guard ref) ≡ guarded_by_call h p (Monitor true (Some q) (Some o)) ref (w (Guard ref))
begun_guarded h p q None w ref = none_begun (same_pid p q) p (next_ref (contents h) p) w (Guard ref)
begun_guarded h p q (Some end) w ref = begun_beside (same_pid p q) p (next_ref (contents h) p) ref end w

gone_guarded : (b : Bool) (p q : Pid) (u ref : Ref) (w : Contents) → after (gone_told b p q u) w (Guard ref) ≡ w (Guard ref)
gone_guarded true p q u ref w = refl
gone_guarded false p q u ref w = refl

flush_guarded : (b : Bool) (p : Pid) (o : Option Meaning) (ref : Ref) (w : Contents) → after (flushed b p o) w (Guard ref) ≡ w (Guard ref)
flush_guarded false p o ref w = refl
flush_guarded true p None ref w = refl
flush_guarded true p (Some m) ref w = refl

ended_guarded : (b : Bool) (u ref : Ref) (q : Pid) (w : Contents) → after (if b then WatchCleared u ∷ WatcherRemoved q u ∷ GuardUnwatched u ∷ [] else CellTouched (Watch u) ∷ CellTouched (Watchers q) ∷ []) w (Guard ref) ≡ unwatched_if (b && same_ref u ref) (w (Guard ref))
ended_guarded true u ref q w = refl
ended_guarded false u ref q w = refl

unwatch_guarded : (p : Pid) (u ref : Ref) (o : Option Pid) (w : Contents) → after (watch_ends p u o) w (Guard ref) ≡ unwatched_if (is_some o && (same_pid u.pid p && same_ref u ref)) (w (Guard ref))
unwatch_guarded p u ref None w = refl
unwatch_guarded p u ref (Some q) w = ended_guarded (same_pid u.pid p) u ref q w

cleared_by : (b : Bool) (u ref : Ref) (w : Contents) → after (if b then GuardCleared u ∷ [] else []) w (Guard ref) ≡ cleared_if (b && same_ref u ref) (w (Guard ref))
cleared_by true u ref w = refl
cleared_by false u ref w = refl

unaliased_by : (b : Bool) (u ref : Ref) (o : Option Name) (w : Contents) → after (if b then alias_goes u o else []) w (Guard ref) ≡ unaliased_if (b && same_ref u ref) o (w (Guard ref))
unaliased_by true u ref None w = refl
unaliased_by true u ref (Some name) w = refl
unaliased_by false u ref o w = refl

named_guarded : (v w : Contents) (p : Pid) (name : Name) (u : Ref) (alias : Option AliasEnd) (o : Option Pid) (ref : Ref) → after (named_line v p name u alias o).changes w (Guard ref) ≡ set_if (same_ref u ref) (named_guard p name (named_alias p o alias)) (w (Guard ref))
named_guarded v w p name u alias None ref = gone_guarded false p p u ref (changed (GuardSet u (named_guard p name alias)) (after (watch_begins u p) w))
named_guarded v w p name u alias (Some q) ref = gone_guarded (v (Alive q)) p q u ref (changed (GuardSet u (named_guard p name (alias_beside (same_pid p q) alias))) (after (watch_begins u q) w))

call_guarded : (h : History) (w : Contents) (p : Pid) (call : Call) (ref : Ref) → after (line (contents h) p call).changes w (Guard ref) ≡ guarded_by_call h p call ref (w (Guard ref))
call_guarded h w p (Monitor true None alias) ref = refl
call_guarded h w p (Monitor false None alias) ref = refl
call_guarded h w p (Monitor false (Some q) alias) ref = refl
call_guarded h w p (Monitor true (Some q) None) ref = refl
call_guarded h w p (Monitor true (Some q) (Some alias)) ref =
    let u = next_ref (contents h) p in
    let mid = after (watch_begins u q) w in
    let begun = alias_beside (same_pid p q) alias in
    after_both (alias_begins p u begun) (gone_told (contents h (Alive q)) p q u) mid (Guard ref) ∙ gone_guarded (contents h (Alive q)) p q u ref (after (alias_begins p u begun) mid) ∙ begun_guarded h p q alias mid ref
call_guarded h w p (MonitorName false name alias) ref = refl
call_guarded h w p (MonitorName true name None) ref = refl
call_guarded h w p (MonitorName true name (Some alias)) ref = named_guarded (contents h) w p name (next_ref (contents h) p) alias (contents h (Holder name)) ref
call_guarded h w p (Demonitor None flushes) ref = refl
call_guarded h w p (Demonitor (Some u) None) ref = refl
call_guarded h w p (Demonitor (Some u) (Some flushes)) ref =
    let ks = watch_ends p u (contents h (Watch u)) in
    let found = selected_of (is_of_watch u) (mailbox_in (contents h) p) in
    after_both ks (flushed flushes p found) w (Guard ref) ∙ flush_guarded flushes p found ref (after ks w) ∙ unwatch_guarded p u ref (contents h (Watch u)) w
call_guarded h w p (MakeAlias None) ref = refl
call_guarded h w p (MakeAlias (Some end)) ref = refl
call_guarded h w p (Unalias None) ref = refl
call_guarded h w p (Unalias (Some u)) ref = unaliased_by (is_alias_of p (contents h (Guard u))) u ref (watch_name (contents h (Guard u))) w
call_guarded h w p (StartTimer is_named None None m) ref = refl
call_guarded h w p (StartTimer is_named (Some time) None m) ref = refl
call_guarded h w p (StartTimer is_named None (Some q) m) ref = refl
call_guarded h w p (StartTimer is_named (Some time) (Some q) m) ref =
    let u = next_ref (contents h) p in
    put_leaves (contents h (Alive q)) (next_child (contents h) p) q (Elapsed u (timer_message is_named u m)) (changed (GuardSet u (guards.Timer q time)) w) (Guard ref) refl
call_guarded h w p (CancelTimer None) ref = refl
call_guarded h w p (CancelTimer (Some u)) ref = cleared_by (is_some (timer_in (contents h (Guard u)))) u ref w
call_guarded h w p (ReadTimer None) ref = refl
call_guarded h w p (ReadTimer (Some u)) ref = refl
call_guarded h w p (OnTable argument call) ref = call_leaves (contents h) w p (OnTable argument call) (Guard ref) (no_guard call ref)
call_guarded h w p call ref = call_leaves (contents h) w p call (Guard ref) refl

goes_guarded : (s r : Pid) (ref : Ref) (f : Fate) (signal : Signal) (h : History) (w : Contents) → after (goes_with (contents h) s r signal) w (Guard ref) ≡ guarded_in h (Deliver s r) (Delivered signal f) ref (w (Guard ref))
goes_guarded s r ref f (Message m) h w = refl
goes_guarded s r ref f (Exit reason) h w = refl
goes_guarded s r ref f (LinkExit reason) h w = refl
goes_guarded s r ref f (Down u reason) h w = refl
goes_guarded s r ref f (Guarded u m) h w = reply_guarded (ends_by_reply r (contents h (Guard u))) u ref (contents h (Watch u)) w
goes_guarded s r ref f (Elapsed u m) h w = refl

fate_guarded : (v w : Contents) (r : Pid) (ref : Ref) (f : Fate) → after (changes_of_fate v r f) w (Guard ref) ≡ w (Guard ref)
fate_guarded v w r ref (Arrives m) = refl
fate_guarded v w r ref IsIgnored = refl
fate_guarded v w r ref IsDropped = refl
fate_guarded v w r ref (Kills reason) = end_leaves v w r reason (Guard ref) refl

told_guarded : (h : History) (step : Step) (deed : Deed) (ref : Ref) → after (changes_by (contents h) step deed) (contents h) (Guard ref) ≡ guarded_in h step deed ref (contents h (Guard ref))
told_guarded h (Turn p) (Served kind arguments answer) ref = call_guarded h _ p (call_of kind arguments) ref
told_guarded h (Turn p) (Refused kind arguments refusal) ref = refl
told_guarded h (Turn p) (EndedItself kind arguments reason) ref = end_leaves (contents h) (changed (TurnTaken p []) (contents h)) p reason (Guard ref) refl
told_guarded h (Turn p) (Received m) ref = refl
told_guarded h (Turn p) TimedOut ref = refl
told_guarded h (Turn p) (Ended reason) ref = end_leaves (contents h) (changed (TurnTaken p []) (contents h)) p reason (Guard ref) refl
told_guarded h (Turn p) RanAway ref = end_leaves (contents h) (changed (TurnTaken p []) (contents h)) p runaway (Guard ref) refl
told_guarded h (Turn p) (Delivered signal f) ref = refl
told_guarded h (Deliver s r) (Delivered signal f) ref =
    let ks = goes_with (contents h) s r signal in
    let w = changed (SignalDelivered s r) (contents h) in
    after_both ks (changes_of_fate (after ks (contents h)) r f) w (Guard ref) ∙ fate_guarded (after ks (contents h)) (after ks w) r ref f ∙ goes_guarded s r ref f signal h w
told_guarded h (Deliver s r) deed ref = refl

pub guarded_told : GuardedIsTold
unfolding contents
guarded_told h e ref = told_guarded h e.step e.deed ref

-- ---- names

-- what of an end writes no name
abbrev pass_sorts : List ℕ
pass_sorts = 5 ∷ 11 ∷ 12 ∷ 13 ∷ 14 ∷ []

passed_off : (p : Pid) (t : Ref) (table_ : tables.Table) (heir : Heir) → AllAmong pass_sorts (passed p t table_ heir)
passed_off p t table_ None = (refl, (refl, among_if pass_sorts table_.is_named _ _ (refl, tt) tt))
passed_off p t table_ (Some heir) = (refl, (refl, (refl, tt)))

passes_off : (v : Contents) (p : Pid) (t : Ref) (o : Option tables.Table) → AllAmong pass_sorts (table_passes v p t o)
passes_off v p t None = (refl, (refl, tt))
passes_off v p t (Some table_) = passed_off p t table_ (living_heir v table_.heir)

tables_off : (v : Contents) (p : Pid) (ts : List Ref) → AllAmong pass_sorts (tables_pass v p ts)
tables_off v p [] = tt
tables_off v p (t ∷ ts) = among_both pass_sorts (table_passes v p t (v (Table t))) (tables_pass v p ts) (passes_off v p t (v (Table t))) (tables_off v p ts)

partners_off : (v : Contents) (p : Pid) (reason : Meaning) (qs : List Pid) → AllAmong pass_sorts (partners_told v p reason qs)
partners_off v p reason [] = tt
partners_off v p reason (q ∷ qs) = among_both pass_sorts (put_if (v (Alive q)) p q (LinkExit reason)) (partners_told v p reason qs) (put_among pass_sorts (v (Alive q)) p q (LinkExit reason) refl) (partners_off v p reason qs)

watchers_off : (v : Contents) (p : Pid) (reason : Meaning) (refs : List Ref) → AllAmong pass_sorts (watchers_told v p reason refs)
watchers_off v p reason [] = tt
watchers_off v p reason (ref ∷ refs) = among_both pass_sorts (put_if (v (Alive ref.pid)) p ref.pid (Down ref reason)) (watchers_told v p reason refs) (put_among pass_sorts (v (Alive ref.pid)) p ref.pid (Down ref reason) refl) (watchers_off v p reason refs)

-- of a cell of another sort an end leaves what its name leaves of it
pub end_but_name : (v w : Contents) (p : Pid) (reason : Meaning) (c : Cell) → is_among pass_sorts c ≡ false → after (ends v p reason) w c ≡ after (name_left p (v (NameOf p))) (changed (AliveCleared p) (changed (MachineHalted p reason) w)) c
end_but_name v w p reason c other =
    let dead = changed (AliveCleared p) v in
    let mid = changed (AliveCleared p) (changed (MachineHalted p reason) w) in
    let passing = tables_pass dead p (dead (Owned p)) in
    let partners = partners_told dead p reason (dead (Links p)) in
    let watchers = watchers_told dead p reason (dead (Watchers p)) in
    let name = name_left p (dead (NameOf p)) in
    let one = changed (OwnedCleared p) (after passing mid) in
    let off : (ks : List Change) (u : Contents) → AllAmong pass_sorts ks → after ks u c ≡ u c = λ ks u among. stays ks u c (untouched_by pass_sorts ks c among other) in
    after_both passing (OwnedCleared p ∷ (partners ++ (watchers ++ name))) mid c
    ∙ after_both partners (watchers ++ name) one c
    ∙ after_both watchers name (after partners one) c
    ∙ follows name (after watchers (after partners one)) mid c
    (off watchers (after partners one) (watchers_off dead p reason (dead (Watchers p))) ∙ off partners one (partners_off dead p reason (dead (Links p))) ∙ off (OwnedCleared p ∷ []) (after passing mid) (refl, tt) ∙ off passing mid (tables_off dead p (dead (Owned p))))

name_told : (p : Pid) (o : Option Name) (w : Contents) (n : Name) → after (name_left p o) w (Holder n) ≡ vacated o n (w (Holder n))
name_told p None w n = refl
name_told p (Some m) w n = refl

pub end_held : (v w : Contents) (p : Pid) (reason : Meaning) (n : Name) → after (ends v p reason) w (Holder n) ≡ vacated (v (NameOf p)) n (w (Holder n))
end_held v w p reason n = end_but_name v w p reason (Holder n) refl ∙ name_told p (v (NameOf p)) (changed (AliveCleared p) (changed (MachineHalted p reason) w)) n

unheld_by : (w : Contents) (m n : Name) (o : Option Pid) → w (Holder m) ≡ o → after (unregister_line m o).changes w (Holder n) ≡ (if same_name m n then None else w (Holder n))
unheld_by w m n None is = ends_if true (same_name m n) (w (Holder n)) (λ same. ap (λ k. w (Holder k)) (sym (pids_same m n same)) ∙ is)
unheld_by w m n (Some q) is = refl

call_held : (v w : Contents) (p : Pid) (call : Call) (n : Name) → ((m : Name) → w (Holder m) ≡ v (Holder m)) → after (line v p call).changes w (Holder n) ≡ held_by_call call n (w (Holder n))
call_held v w p (Register None None) n same = refl
call_held v w p (Register None (Some q)) n same = refl
call_held v w p (Register (Some m) None) n same = refl
call_held v w p (Register (Some m) (Some q)) n same = refl
call_held v w p (Unregister None) n same = refl
call_held v w p (Unregister (Some m)) n same = unheld_by w m n (v (Holder m)) (same m)
call_held v w p (OnTable argument call) n same = call_leaves v w p (OnTable argument call) (Holder n) (no_holder call n)
call_held v w p call n same = call_leaves v w p call (Holder n) refl

fate_held : (h : History) (v w : Contents) (s r : Pid) (n : Name) (signal : Signal) (f : Fate) → v (NameOf r) ≡ contents h (NameOf r) → after (changes_of_fate v r f) w (Holder n) ≡ vacated (name_of_ended h (ended_in (Deliver s r) (Delivered signal f))) n (w (Holder n))
fate_held h v w s r n signal (Arrives m) same = refl
fate_held h v w s r n signal IsIgnored same = refl
fate_held h v w s r n signal IsDropped same = refl
fate_held h v w s r n signal (Kills reason) same = end_held v w r reason n ∙ ap (λ o. vacated o n (w (Holder n))) same

told_held : (h : History) (step : Step) (deed : Deed) (n : Name) → after (changes_by (contents h) step deed) (contents h) (Holder n) ≡ vacated (name_of_ended h (ended_in step deed)) n (held_in step deed n (contents h (Holder n)))
told_held h (Turn p) (Served kind arguments answer) n = call_held (contents h) _ p (call_of kind arguments) n (λ m. refl)
told_held h (Turn p) (Refused kind arguments refusal) n = refl
told_held h (Turn p) (EndedItself kind arguments reason) n = end_held (contents h) _ p reason n
told_held h (Turn p) (Received m) n = refl
told_held h (Turn p) TimedOut n = refl
told_held h (Turn p) (Ended reason) n = end_held (contents h) _ p reason n
told_held h (Turn p) RanAway n = end_held (contents h) _ p runaway n
told_held h (Turn p) (Delivered signal f) n = refl
told_held h (Deliver s r) (Delivered signal f) n =
    let ks = goes_with (contents h) s r signal in
    let w = changed (SignalDelivered s r) (contents h) in
    let v = after ks (contents h) in
    after_both ks (changes_of_fate v r f) w (Holder n)
    ∙ fate_held h v (after ks w) s r n signal f (stays ks (contents h) (NameOf r) (goes_off (contents h) s r signal (NameOf r) refl))
    ∙ ap (vacated (name_of_ended h (ended_in (Deliver s r) (Delivered signal f))) n) (stays ks w (Holder n) (goes_off (contents h) s r signal (Holder n) refl))
told_held h (Deliver s r) deed n = refl

pub holder_told : HolderIsTold
unfolding contents
holder_told h e n = told_held h e.step e.deed n
