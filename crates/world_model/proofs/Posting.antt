-- The signals that an event puts, call by call and end by end.
use Rattle.std.proofs.Common.{◌≡◌, Bool, true, false, ◌&&◌, List, [], ◌∷◌, ◌++◌, ap, Option, Some, None, refl, sym, ◌∙◌, if◌then◌else◌}
use Rattle.term_core.specs.Meaning.{Meaning}
use Rattle.term_core.specs.declared.step.Step.{Step}
use Rattle.term_core.specs.declared.step.Step.TheVariants.{Deliver, Turn}
use Rattle.world_model.specs.Calls.{Call, Spawn, Send, ToNobody, ToProcess, ToName, ToReference, ToNode, ToAnotherNode, SendExit, Link, Unlink, Monitor, MonitorName, Demonitor, Flag, Register, Unregister, WhereIs, Registered, IsAlive, ProcessInfo, MakeRef, MakeAlias, Unalias, StartTimer, CancelTimer, ReadTimer, New, OnTable, Misfit, GiveAway, Lookup, Member, LookupElement, First, Last, Next, Prev, ToList, Insert, InsertNew, DeleteTable, DeleteKey, DeleteObject, DeleteAll, Take, UpdateCounter, UpdateElement, SetOptions, Info, InfoAll, call_of}
use Rattle.world_model.specs.Cells.{Contents, Alive, Tail, Holder, Links, Trap, Owned, Table, Watch, Watchers, Guard, NameOf}
use Rattle.world_model.specs.Changes.{Change, SignalPut, after, changed, AliveCleared, TableNameCleared, OwnedCleared}
use Rattle.world_model.specs.Ends.{passed, table_passes, tables_pass, partners_told, watchers_told, name_left, left_by, living_heir}
use Rattle.world_model.specs.Events.{Signal, Message, Exit, History, LinkExit, Down, Guarded, Elapsed, Fate, Delivered, Arrives, IsIgnored, IsDropped, Kills, Deed, Served, Refused, EndedItself, Ended, Received, TimedOut, RanAway}
use Rattle.world_model.specs.Guards.{aliased, ends_by_reply}
use Rattle.world_model.specs.TableAccess.{Found, find}
use Rattle.world_model.specs.TableRules.{found_line}
use Rattle.world_model.specs.Lines.{line}
use Rattle.world_model.specs.Mail.{signals_to}
use Rattle.world_model.specs.Names.{Pid, same_pid, Ref, Name}
use Rattle.world_model.specs.Posted.{on_way, if_lives, put_for_holder, put_for_alias, put_by_link, put_by_watch, put_by_named, put_by_gift, put_by_call, outlives, put_for_heir, put_for_table, put_for_heirs, put_for_partners, put_for_watchers, put_by_end, put_in, PutsAreTold}
use Rattle.world_model.specs.ProcessLines.{sent, exited, sent_to_holder, LinkWay, Stands, Pairs, PairsGone, Fails, link_changes, link_way, gone_told, next_child, next_ref, alias_begins, alias_beside, named_line, send_line, timer_message}
use Rattle.world_model.specs.Signals.{put_if, goes_with, reply_ends}
use Rattle.world_model.specs.Steps.{changes_of_fate, changes_by}
use Rattle.world_model.specs.Tables as tables
use Rattle.world_model.specs.Tables.{Heir}
use Rattle.world_model.specs.World.{contents, beginning}
use Rattle.world_model.specs.declared.alias.AliasEnd.{AliasEnd}
use Rattle.world_model.proofs.MailLaws.{tail_told, nothing_more}
use Rattle.world_model.proofs.SortLaws.{call_leaves}
use Rattle.world_model.proofs.Sorts.{is_among, sorts_of}

-- ---- lists of changes

put_first : (b : Bool) (x : Signal) (all xs ys : List Signal) → all ≡ xs ++ ys → (if b then x ∷ all else all) ≡ (if b then x ∷ xs else xs) ++ ys
put_first true x all xs ys e = ap (λ zs. x ∷ zs) e
put_first false x all xs ys e = e

both_put : (s r : Pid) (ks ls : List Change) → signals_to s r (ks ++ ls) ≡ signals_to s r ks ++ signals_to s r ls
both_put s r [] ls = refl
both_put s r (SignalPut t u x ∷ ks) ls = put_first (same_pid t s && same_pid u r) x (signals_to s r (ks ++ ls)) (signals_to s r ks) (signals_to s r ls) (both_put s r ks ls)
both_put s r (k ∷ ks) ls = both_put s r ks ls

-- changes that leave a tail as it is put nothing there
silent : (ks : List Change) (s r : Pid) → after ks beginning (Tail s r) ≡ beginning (Tail s r) → signals_to s r ks ≡ []
silent ks s r same = sym (tail_told ks beginning s r) ∙ same

silent_call : (v : Contents) (p : Pid) (call : Call) (s r : Pid) → is_among (sorts_of call) (Tail s r) ≡ false → signals_to s r (line v p call).changes ≡ []
silent_call v p call s r other = silent (line v p call).changes s r (call_leaves v beginning p call (Tail s r) other)

-- ---- calls

if_put : (b : Bool) (t u : Pid) (x : Signal) (s r : Pid) → signals_to s r (put_if b t u x) ≡ if_lives b (on_way t u x s r)
if_put true t u x s r = refl
if_put false t u x s r = refl

sent_put : (b : Bool) (h : History) (p to : Pid) (m : Meaning) (s r : Pid) → signals_to s r (sent b (contents h) p to m) ≡ (if b then [] else if_lives (contents h (Alive to)) (on_way p to (Message m) s r))
sent_put true h p to m s r = refl
sent_put false h p to m s r = if_put (contents h (Alive to)) p to (Message m) s r

exited_put : (b : Bool) (h : History) (p to : Pid) (reason : Meaning) (s r : Pid) → signals_to s r (exited b (contents h) p to reason) ≡ (if b then [] else if_lives (contents h (Alive to)) (on_way p to (Exit reason) s r))
exited_put true h p to reason s r = refl
exited_put false h p to reason s r = if_put (contents h (Alive to)) p to (Exit reason) s r

holder_put : (h : History) (p : Pid) (o : Option Pid) (m : Meaning) (s r : Pid) → signals_to s r (sent_to_holder (contents h) p o m) ≡ put_for_holder h p o (Message m) s r
holder_put h p None m s r = refl
holder_put h p (Some to) m s r = sent_put (same_pid p to) h p to m s r

reply_put : (b : Bool) (ref : Ref) (o : Option Pid) (ks : List Change) (s r : Pid) → signals_to s r (reply_ends b ref o ++ ks) ≡ signals_to s r ks
reply_put true ref None ks s r = refl
reply_put true ref (Some q) ks s r = refl
reply_put false ref o ks s r = refl

alias_put : (h : History) (p : Pid) (ref : Ref) (o : Option Pid) (m : Meaning) (s r : Pid) → signals_to s r (send_line (contents h) p ref o m).changes ≡ put_for_alias h p o (Guarded ref m) s r
alias_put h p ref None m s r = refl
alias_put h p ref (Some to) m s r = if_put (contents h (Alive to)) p to (Guarded ref m) s r

begins_put : (p : Pid) (ref : Ref) (o : Option AliasEnd) (ks : List Change) (s r : Pid) → signals_to s r (alias_begins p ref o ++ ks) ≡ signals_to s r ks
begins_put p ref None ks s r = refl
begins_put p ref (Some end) ks s r = refl

link_put : (way : LinkWay) (p q s r : Pid) → signals_to s r (link_changes p q way) ≡ put_by_link way p q s r
link_put Stands p q s r = refl
link_put Pairs p q s r = refl
link_put PairsGone p q s r = refl
link_put Fails p q s r = refl

gone_put : (b : Bool) (p q : Pid) (ref : Ref) (s r : Pid) → signals_to s r (gone_told b p q ref) ≡ put_by_watch b p q ref s r
gone_put true p q ref s r = refl
gone_put false p q ref s r = refl

named_put : (h : History) (p : Pid) (name : Name) (alias : Option AliasEnd) (o : Option Pid) (s r : Pid) → signals_to s r (named_line (contents h) p name (next_ref (contents h) p) alias o).changes ≡ put_by_named h p o (next_ref (contents h) p) s r
named_put h p name alias None s r = gone_put false p p (next_ref (contents h) p) s r
named_put h p name alias (Some q) s r = gone_put (contents h (Alive q)) p q (next_ref (contents h) p) s r

gift_put : (v : Contents) (p : Pid) (o : Option Found) (to : Pid) (gift_ : Meaning) (s r : Pid) → signals_to s r (found_line v p (GiveAway (Some to) gift_) o).changes ≡ put_by_gift o to gift_ s r
gift_put v p None to gift_ s r = refl
gift_put v p (Some f) to gift_ s r = refl

no_gift : (v : Contents) (p : Pid) (o : Option Found) (gift_ : Meaning) (s r : Pid) → signals_to s r (found_line v p (GiveAway None gift_) o).changes ≡ []
no_gift v p None gift_ s r = refl
no_gift v p (Some f) gift_ s r = refl

call_put : (h : History) (p : Pid) (call : Call) (s r : Pid) → signals_to s r (line (contents h) p call).changes ≡ put_by_call h p call s r
call_put h p (Send ToNobody m) s r = refl
call_put h p (Send (ToProcess to) m) s r = sent_put (same_pid p to) h p to m s r
call_put h p (Send (ToReference ref) m) s r = alias_put h p ref (aliased (contents h (Guard ref))) m s r
call_put h p (Send (ToName name) m) s r = holder_put h p (contents h (Holder name)) m s r
call_put h p (Send (ToNode name) m) s r = holder_put h p (contents h (Holder name)) m s r
call_put h p (Send ToAnotherNode m) s r = refl
call_put h p (SendExit None reason) s r = refl
call_put h p (SendExit (Some to) reason) s r = exited_put (same_pid p to) h p to reason s r
call_put h p (Link None) s r = refl
call_put h p (Link (Some q)) s r = link_put (link_way p q (contents h (Links p)) (contents h (Alive q)) (contents h (Trap p))) p q s r
call_put h p (Monitor true None alias) s r = refl
call_put h p (Monitor false None alias) s r = refl
call_put h p (Monitor false (Some q) alias) s r = refl
call_put h p (Monitor true (Some q) None) s r = refl
call_put h p (Monitor true (Some q) (Some alias)) s r = begins_put p (next_ref (contents h) p) (alias_beside (same_pid p q) alias) (gone_told (contents h (Alive q)) p q (next_ref (contents h) p)) s r ∙ gone_put (contents h (Alive q)) p q (next_ref (contents h) p) s r
call_put h p (MonitorName false name alias) s r = refl
call_put h p (MonitorName true name None) s r = refl
call_put h p (MonitorName true name (Some alias)) s r = named_put h p name alias (contents h (Holder name)) s r
call_put h p (OnTable argument (GiveAway None gift_)) s r = no_gift (contents h) p (find (contents h) argument) gift_ s r
call_put h p (OnTable argument (GiveAway (Some to) gift_)) s r = gift_put (contents h) p (find (contents h) argument) to gift_ s r
call_put h p (OnTable argument (Lookup key)) s r = silent_call (contents h) p (OnTable argument (Lookup key)) s r refl
call_put h p (OnTable argument (Member key)) s r = silent_call (contents h) p (OnTable argument (Member key)) s r refl
call_put h p (OnTable argument (LookupElement key position)) s r = silent_call (contents h) p (OnTable argument (LookupElement key position)) s r refl
call_put h p (OnTable argument First) s r = silent_call (contents h) p (OnTable argument First) s r refl
call_put h p (OnTable argument Last) s r = silent_call (contents h) p (OnTable argument Last) s r refl
call_put h p (OnTable argument (Next key)) s r = silent_call (contents h) p (OnTable argument (Next key)) s r refl
call_put h p (OnTable argument (Prev key)) s r = silent_call (contents h) p (OnTable argument (Prev key)) s r refl
call_put h p (OnTable argument ToList) s r = silent_call (contents h) p (OnTable argument ToList) s r refl
call_put h p (OnTable argument (Insert objects)) s r = silent_call (contents h) p (OnTable argument (Insert objects)) s r refl
call_put h p (OnTable argument (InsertNew objects)) s r = silent_call (contents h) p (OnTable argument (InsertNew objects)) s r refl
call_put h p (OnTable argument DeleteTable) s r = silent_call (contents h) p (OnTable argument DeleteTable) s r refl
call_put h p (OnTable argument (DeleteKey key)) s r = silent_call (contents h) p (OnTable argument (DeleteKey key)) s r refl
call_put h p (OnTable argument (DeleteObject object)) s r = silent_call (contents h) p (OnTable argument (DeleteObject object)) s r refl
call_put h p (OnTable argument DeleteAll) s r = silent_call (contents h) p (OnTable argument DeleteAll) s r refl
call_put h p (OnTable argument (Take key)) s r = silent_call (contents h) p (OnTable argument (Take key)) s r refl
call_put h p (OnTable argument (UpdateCounter key increment default)) s r = silent_call (contents h) p (OnTable argument (UpdateCounter key increment default)) s r refl
call_put h p (OnTable argument (UpdateElement key changes)) s r = silent_call (contents h) p (OnTable argument (UpdateElement key changes)) s r refl
call_put h p (OnTable argument (SetOptions heirs)) s r = silent_call (contents h) p (OnTable argument (SetOptions heirs)) s r refl
call_put h p (OnTable argument (Info item)) s r = silent_call (contents h) p (OnTable argument (Info item)) s r refl
call_put h p (OnTable argument InfoAll) s r = silent_call (contents h) p (OnTable argument InfoAll) s r refl
call_put h p (Spawn way origin) s r = silent_call (contents h) p (Spawn way origin) s r refl
call_put h p (Unlink q) s r = silent_call (contents h) p (Unlink q) s r refl
call_put h p (Demonitor ref flush) s r = silent_call (contents h) p (Demonitor ref flush) s r refl
call_put h p (Flag b) s r = silent_call (contents h) p (Flag b) s r refl
call_put h p (Register n q) s r = silent_call (contents h) p (Register n q) s r refl
call_put h p (Unregister n) s r = silent_call (contents h) p (Unregister n) s r refl
call_put h p (WhereIs n) s r = silent_call (contents h) p (WhereIs n) s r refl
call_put h p Registered s r = silent_call (contents h) p Registered s r refl
call_put h p (ProcessInfo q item) s r = silent_call (contents h) p (ProcessInfo q item) s r refl
call_put h p (IsAlive q) s r = silent_call (contents h) p (IsAlive q) s r refl
call_put h p MakeRef s r = refl
call_put h p (MakeAlias end) s r = silent_call (contents h) p (MakeAlias end) s r refl
call_put h p (Unalias ref) s r = silent_call (contents h) p (Unalias ref) s r refl
call_put h p (StartTimer is_named None None m) s r = refl
call_put h p (StartTimer is_named (Some time) None m) s r = refl
call_put h p (StartTimer is_named None (Some to) m) s r = refl
call_put h p (StartTimer is_named (Some time) (Some to) m) s r = if_put (contents h (Alive to)) (next_child (contents h) p) to (Elapsed (next_ref (contents h) p) (timer_message is_named (next_ref (contents h) p) m)) s r
call_put h p (CancelTimer ref) s r = silent_call (contents h) p (CancelTimer ref) s r refl
call_put h p (ReadTimer ref) s r = silent_call (contents h) p (ReadTimer ref) s r refl
call_put h p (New name options) s r = silent_call (contents h) p (New name options) s r refl
call_put h p Misfit s r = refl

-- ---- ends

freed_put : (b : Bool) (name : Name) (s r : Pid) → signals_to s r (if b then TableNameCleared name ∷ [] else []) ≡ []
freed_put true name s r = refl
freed_put false name s r = refl

heir_by : (b : Bool) (p : Pid) (t : Ref) (table : tables.Table) (heir : Pid × Meaning) (s r : Pid) → signals_to s r (passed p t table (if b then Some heir else None)) ≡ if_lives b (signals_to s r (passed p t table (Some heir)))
heir_by true p t table heir s r = refl
heir_by false p t table heir s r = freed_put table.is_named table.name s r

heir_put : (v : Contents) (p : Pid) (t : Ref) (table : tables.Table) (heir : Heir) (s r : Pid) → signals_to s r (passed p t table (living_heir (changed (AliveCleared p) v) heir)) ≡ put_for_heir v p t table heir s r
heir_put v p t table None s r = freed_put table.is_named table.name s r
heir_put v p t table (Some heir) s r = heir_by (outlives v p heir.0) p t table heir s r

table_put : (v : Contents) (p : Pid) (t : Ref) (o : Option tables.Table) (s r : Pid) → signals_to s r (table_passes (changed (AliveCleared p) v) p t o) ≡ put_for_table v p t o s r
table_put v p t None s r = refl
table_put v p t (Some table) s r = heir_put v p t table table.heir s r

heirs_put : (v : Contents) (p : Pid) (ts : List Ref) (s r : Pid) → signals_to s r (tables_pass (changed (AliveCleared p) v) p ts) ≡ put_for_heirs v p ts s r
heirs_put v p [] s r = refl
heirs_put v p (t ∷ ts) s r =
    both_put s r (table_passes (changed (AliveCleared p) v) p t (v (Table t))) (tables_pass (changed (AliveCleared p) v) p ts)
    ∙ (λ i. table_put v p t (v (Table t)) s r i ++ heirs_put v p ts s r i)

partners_put : (v : Contents) (p : Pid) (reason : Meaning) (qs : List Pid) (s r : Pid) → signals_to s r (partners_told (changed (AliveCleared p) v) p reason qs) ≡ put_for_partners v p reason qs s r
partners_put v p reason [] s r = refl
partners_put v p reason (q ∷ qs) s r =
    both_put s r (put_if (outlives v p q) p q (LinkExit reason)) (partners_told (changed (AliveCleared p) v) p reason qs)
    ∙ (λ i. if_put (outlives v p q) p q (LinkExit reason) s r i ++ partners_put v p reason qs s r i)

watchers_put : (v : Contents) (p : Pid) (reason : Meaning) (refs : List Ref) (s r : Pid) → signals_to s r (watchers_told (changed (AliveCleared p) v) p reason refs) ≡ put_for_watchers v p reason refs s r
watchers_put v p reason [] s r = refl
watchers_put v p reason (ref ∷ refs) s r =
    both_put s r (put_if (outlives v p ref.pid) p ref.pid (Down ref reason)) (watchers_told (changed (AliveCleared p) v) p reason refs)
    ∙ (λ i. if_put (outlives v p ref.pid) p ref.pid (Down ref reason) s r i ++ watchers_put v p reason refs s r i)

name_put : (p : Pid) (o : Option Name) (s r : Pid) → signals_to s r (name_left p o) ≡ []
name_put p None s r = refl
name_put p (Some name) s r = refl

end_put : (v : Contents) (p : Pid) (reason : Meaning) (s r : Pid) → signals_to s r (left_by (changed (AliveCleared p) v) p reason) ≡ put_by_end v p reason s r
end_put v p reason s r =
    let w = changed (AliveCleared p) v in
    let gifts = tables_pass w p (v (Owned p)) in
    let partners = partners_told w p reason (v (Links p)) in
    let watchers = watchers_told w p reason (v (Watchers p)) in
    let name = name_left p (v (NameOf p)) in
    both_put s r gifts (OwnedCleared p ∷ (partners ++ (watchers ++ name)))
    ∙ (λ i. heirs_put v p (v (Owned p)) s r i ++ both_put s r partners (watchers ++ name) i)
    ∙ (λ i. put_for_heirs v p (v (Owned p)) s r ++ (partners_put v p reason (v (Links p)) s r i ++ both_put s r watchers name i))
    ∙ (λ i. put_for_heirs v p (v (Owned p)) s r ++ (put_for_partners v p reason (v (Links p)) s r ++ (watchers_put v p reason (v (Watchers p)) s r i ++ name_put p (v (NameOf p)) s r i)))
    ∙ sym (ap (λ xs. put_for_heirs v p (v (Owned p)) s r ++ (put_for_partners v p reason (v (Links p)) s r ++ xs)) (nothing_more (put_for_watchers v p reason (v (Watchers p)) s r)))

-- ---- events

goes_put : (v : Contents) (t u : Pid) (x : Signal) (ks : List Change) (s r : Pid) → signals_to s r (goes_with v t u x ++ ks) ≡ signals_to s r ks
goes_put v t u (Message m) ks s r = refl
goes_put v t u (Exit reason) ks s r = refl
goes_put v t u (LinkExit reason) ks s r = refl
goes_put v t u (Down ref reason) ks s r = refl
goes_put v t u (Guarded ref m) ks s r = reply_put (ends_by_reply u (v (Guard ref))) ref (v (Watch ref)) ks s r
goes_put v t u (Elapsed ref m) ks s r = refl

fate_put : (h : History) (t u : Pid) (x : Signal) (f : Fate) (s r : Pid) → signals_to s r (changes_of_fate (after (goes_with (contents h) t u x) (contents h)) u f) ≡ put_in h (Deliver t u) (Delivered x f) s r
fate_put h t u x (Arrives m) s r = refl
fate_put h t u x IsIgnored s r = refl
fate_put h t u x IsDropped s r = refl
fate_put h t u x (Kills reason) s r = end_put (after (goes_with (contents h) t u x) (contents h)) u reason s r

event_put : (h : History) (step : Step) (deed : Deed) (s r : Pid) → signals_to s r (changes_by (contents h) step deed) ≡ put_in h step deed s r
event_put h (Turn p) (Served kind arguments answer) s r = call_put h p (call_of kind arguments) s r
event_put h (Turn p) (Refused kind arguments refusal) s r = refl
event_put h (Turn p) (EndedItself kind arguments reason) s r = end_put (contents h) p reason s r
event_put h (Turn p) (Received m) s r = refl
event_put h (Turn p) TimedOut s r = refl
event_put h (Turn p) (Ended reason) s r = end_put (contents h) p reason s r
event_put h (Turn p) RanAway s r = end_put (contents h) p _ s r
event_put h (Turn p) (Delivered x f) s r = refl
event_put h (Deliver t u) (Delivered x f) s r =
    goes_put (contents h) t u x (changes_of_fate (after (goes_with (contents h) t u x) (contents h)) u f) s r ∙ fate_put h t u x f s r
event_put h (Deliver t u) deed s r = refl

pub puts_told : PutsAreTold
puts_told h e s r = event_put h e.step e.deed s r
