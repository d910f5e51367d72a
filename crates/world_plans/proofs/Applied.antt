-- What a step changes can be applied.
use Rattle.std.proofs.Common.{◌≡◌, ◌∙◌, ◌&&◌, ℕ, Bool, true, false, List, [], ◌∷◌, ◌++◌, Option, Some, None, is_some, if◌then◌else◌, refl, sym, ap, true≢false}
use Rattle.std.specs.List.{list_any}
use Rattle.std.specs.Prelude.{option_and_then}
use Rattle.core_calls.specs.declared.call.CallKind.{CallKind}
use Rattle.ets_rules.specs.Changes as rules
use Rattle.ets_rules.proofs.Planning.{line_applies, new_applies}
use Rattle.term_core.specs.Meaning.{Meaning}
use Rattle.term_core.specs.declared.step.Step.TheVariants.{Turn, Deliver}
use Rattle.world_model.specs.Calls.{Call, Spawn, SpawnWay, Alone, Linked, Watched, Send, ToNobody, ToProcess, ToName, ToReference, ToNode, ToAnotherNode, SendExit, Link, Unlink, Monitor, MonitorName, Demonitor, Flag, Register, Unregister, WhereIs, Registered, IsAlive, ProcessInfo, MakeRef, MakeAlias, Unalias, StartTimer, CancelTimer, ReadTimer, New, OnTable, Misfit, TableCall, First, call_of}
use Rattle.world_model.specs.Cells as cells
use Rattle.world_model.specs.Cells.{Contents}
use Rattle.world_model.specs.Changes.{Change, RowWritten, TableSet, MessageTaken, OwnedCleared, AliveCleared, WatchCleared, WatcherRemoved, GuardCleared, GuardUnwatched, CellTouched, TableNameCleared, after, cell_of, changed, is_of_watch}
use Rattle.world_model.specs.Ends.{ends, left_by, living_heir, name_left, partners_told, passed, table_passes, tables_pass, watchers_told}
use Rattle.world_model.specs.Events.{Deed, Served, Refused, EndedItself, Received, TimedOut, Ended, RanAway, Delivered, Refusal, Signal, Message, Exit, LinkExit, Down, Guarded, Elapsed, Fate, Arrives, IsIgnored, IsDropped, Kills}
use Rattle.world_model.specs.TableAccess.{Found, find}
use Rattle.world_model.specs.TableRules.{found_line}
use Rattle.world_model.specs.Guards.{aliased, ends_by_reply, is_alias_of, timer_in, watch_name}
use Rattle.world_model.specs.Lines.{line}
use Rattle.world_model.specs.Mailboxes.{mailbox_in, selected_of}
use Rattle.world_model.specs.Names.{Name, Pid, Ref, same_pid, same_term}
use Rattle.world_model.specs.ProcessLines.{LinkWay, Stands, Pairs, PairsGone, Fails, alias_begins, alias_beside, bound, exited, flushed, gone_told, link_changes, link_way, child_of, next_ref, ref_of_turn, send_line, sent, sent_to_holder, timer_message, unregister_line, watch_ends, alias_goes, info_line, named_line}
use Rattle.world_model.specs.Requests.{Calls, Ends, Program, Receives, Request, RunsAway}
use Rattle.world_model.specs.Signals.{goes_with, put_if, reply_ends}
use Rattle.world_model.specs.Steps.{asked, changes_of_fate, deed_asked, deed_of_call, ended_or, ends_itself, judged, must_wait, next_deed, received, runaway}
use Rattle.world_model.specs.TableLines.{table_line}
use Rattle.world_model.specs.Tables as tables
use Rattle.world_model.specs.Tables.{Heir}
use Rattle.world_model.specs.declared.alias.AliasEnd.{AliasEnd}
use Rattle.world_model.specs.declared.process.ProcessItem.{ProcessItem}
use Rattle.world_model.proofs.MailboxLaws.{selected_there}
use Rattle.world_model.proofs.Named.{found_there}
use Rattle.world_model.proofs.SortLaws.{AllAmong, call_among, table_among}
use Rattle.world_model.proofs.Sorts.{is_among, table_sorts}
use Rattle.world_records.specs.Changes.{CanApply, CanHold}
use Rattle.world_footprints.specs.Plans.{StepsCanBeApplied, first_changes}

-- ---- changes that need nothing

abbrev is_plain : Change → Bool
is_plain (RowWritten t key change) = false
is_plain (TableSet t table) = false
is_plain (MessageTaken p message) = false
is_plain k = true

abbrev all_plain : List Change → Bool
all_plain [] = true
all_plain (k ∷ ks) = is_plain k && all_plain ks

both_true : (a b : Bool) → (a && b) ≡ true → (a ≡ true) × (b ≡ true)
both_true true b e = (refl, e)
both_true false b e = absurd (true≢false (sym e))

one_plain : (w : Contents) (k : Change) → is_plain k ≡ true → CanHold w k
one_plain w (RowWritten t key change) e = absurd (true≢false (sym e))
one_plain w (TableSet t table) e = absurd (true≢false (sym e))
one_plain w (MessageTaken p message) e = absurd (true≢false (sym e))
one_plain w k e = record {}

plain_applies : (w : Contents) (ks : List Change) → all_plain ks ≡ true → CanApply w ks
plain_applies w [] e = record {}
plain_applies w (k ∷ ks) e =
    let both = both_true (is_plain k) (all_plain ks) e in
    (one_plain w k both.0, plain_applies (changed k w) ks both.1)

plain_both : (ks ls : List Change) → all_plain ks ≡ true → all_plain ls ≡ true → all_plain (ks ++ ls) ≡ true
plain_both [] ls first then_ = then_
plain_both (k ∷ ks) ls first then_ =
    let both = both_true (is_plain k) (all_plain ks) first in
    (λ i. both.0 i && all_plain (ks ++ ls)) ∙ plain_both ks ls both.1 then_

-- ---- signals, ends

put_plain : (b : Bool) (s r : Pid) (x : Signal) → all_plain (put_if b s r x) ≡ true
put_plain true s r x = refl
put_plain false s r x = refl

freed_plain : (b : Bool) (name : Name) → all_plain (if b then TableNameCleared name ∷ [] else []) ≡ true
freed_plain true name = refl
freed_plain false name = refl

passed_plain : (p : Pid) (t : Ref) (table : tables.Table) (heir : Heir) → all_plain (passed p t table heir) ≡ true
passed_plain p t table None = freed_plain table.is_named table.name
passed_plain p t table (Some heir) = refl

table_plain : (v : Contents) (p : Pid) (t : Ref) (o : Option tables.Table) → all_plain (table_passes v p t o) ≡ true
table_plain v p t None = refl
table_plain v p t (Some table) = passed_plain p t table (living_heir v table.heir)

tables_plain : (v : Contents) (p : Pid) (ts : List Ref) → all_plain (tables_pass v p ts) ≡ true
tables_plain v p [] = refl
tables_plain v p (t ∷ ts) = plain_both (table_passes v p t (v (cells.Table t))) (tables_pass v p ts) (table_plain v p t (v (cells.Table t))) (tables_plain v p ts)

partners_plain : (v : Contents) (p : Pid) (reason : Meaning) (qs : List Pid) → all_plain (partners_told v p reason qs) ≡ true
partners_plain v p reason [] = refl
partners_plain v p reason (q ∷ qs) = plain_both (put_if (v (cells.Alive q)) p q (LinkExit reason)) (partners_told v p reason qs) (put_plain (v (cells.Alive q)) p q (LinkExit reason)) (partners_plain v p reason qs)

watchers_plain : (v : Contents) (p : Pid) (reason : Meaning) (refs : List Ref) → all_plain (watchers_told v p reason refs) ≡ true
watchers_plain v p reason [] = refl
watchers_plain v p reason (ref ∷ refs) = plain_both (put_if (v (cells.Alive ref.pid)) p ref.pid (Down ref reason)) (watchers_told v p reason refs) (put_plain (v (cells.Alive ref.pid)) p ref.pid (Down ref reason)) (watchers_plain v p reason refs)

name_plain : (p : Pid) (o : Option Name) → all_plain (name_left p o) ≡ true
name_plain p None = refl
name_plain p (Some name) = refl

left_plain : (v : Contents) (p : Pid) (reason : Meaning) → all_plain (left_by v p reason) ≡ true
left_plain v p reason =
    let partners = partners_told v p reason (v (cells.Links p)) in
    let watchers = watchers_told v p reason (v (cells.Watchers p)) in
    let name = name_left p (v (cells.NameOf p)) in
    plain_both (tables_pass v p (v (cells.Owned p))) (OwnedCleared p ∷ (partners ++ (watchers ++ name))) (tables_plain v p (v (cells.Owned p)))
    (plain_both partners (watchers ++ name) (partners_plain v p reason (v (cells.Links p))) (plain_both watchers name (watchers_plain v p reason (v (cells.Watchers p))) (name_plain p (v (cells.NameOf p)))))

ends_plain : (v : Contents) (p : Pid) (reason : Meaning) → all_plain (ends v p reason) ≡ true
ends_plain v p reason = left_plain (changed (AliveCleared p) v) p reason

-- ---- deliveries

reply_plain : (b : Bool) (ref : Ref) (target : Option Pid) → all_plain (reply_ends b ref target) ≡ true
reply_plain false ref target = refl
reply_plain true ref None = refl
reply_plain true ref (Some q) = refl

goes_plain : (v : Contents) (s r : Pid) (x : Signal) → all_plain (goes_with v s r x) ≡ true
goes_plain v s r (Message m) = refl
goes_plain v s r (Exit reason) = refl
goes_plain v s r (LinkExit reason) = refl
goes_plain v s r (Down ref reason) = refl
goes_plain v s r (Guarded ref message) = reply_plain (ends_by_reply r (v (cells.Guard ref))) ref (v (cells.Watch ref))
goes_plain v s r (Elapsed ref message) = refl

fate_plain : (v : Contents) (r : Pid) (fate : Fate) → all_plain (changes_of_fate v r fate) ≡ true
fate_plain v r (Arrives message) = refl
fate_plain v r IsIgnored = refl
fate_plain v r IsDropped = refl
fate_plain v r (Kills reason) = ends_plain v r reason

-- ---- calls of processes

bound_plain : (way : SpawnWay) (p child : Pid) (ref : Ref) → all_plain (bound way p child ref) ≡ true
bound_plain Alone p child ref = refl
bound_plain Linked p child ref = refl
bound_plain Watched p child ref = refl

sent_plain : (own : Bool) (v : Contents) (p q : Pid) (message : Meaning) → all_plain (sent own v p q message) ≡ true
sent_plain true v p q message = refl
sent_plain false v p q message = put_plain (v (cells.Alive q)) p q (Message message)

holder_plain : (v : Contents) (p : Pid) (o : Option Pid) (message : Meaning) → all_plain (sent_to_holder v p o message) ≡ true
holder_plain v p None message = refl
holder_plain v p (Some to) message = sent_plain (same_pid p to) v p to message

alias_plain : (v : Contents) (p : Pid) (ref : Ref) (o : Option Pid) (message : Meaning) → all_plain (send_line v p ref o message).changes ≡ true
alias_plain v p ref None message = refl
alias_plain v p ref (Some q) message = put_plain (v (cells.Alive q)) p q (Guarded ref message)

exited_plain : (own : Bool) (v : Contents) (p q : Pid) (reason : Meaning) → all_plain (exited own v p q reason) ≡ true
exited_plain true v p q reason = refl
exited_plain false v p q reason = put_plain (v (cells.Alive q)) p q (Exit reason)

link_plain : (p q : Pid) (way : LinkWay) → all_plain (link_changes p q way) ≡ true
link_plain p q Stands = refl
link_plain p q Pairs = refl
link_plain p q PairsGone = refl
link_plain p q Fails = refl

gone_plain : (b : Bool) (p q : Pid) (ref : Ref) → all_plain (gone_told b p q ref) ≡ true
gone_plain true p q ref = refl
gone_plain false p q ref = refl

begins_plain : (p : Pid) (ref : Ref) (alias : Option AliasEnd) → all_plain (alias_begins p ref alias) ≡ true
begins_plain p ref None = refl
begins_plain p ref (Some end) = refl

cleared_plain : (b : Bool) (ref : Ref) → all_plain (if b then GuardCleared ref ∷ [] else []) ≡ true
cleared_plain true ref = refl
cleared_plain false ref = refl

own_watch_plain : (b : Bool) (ref : Ref) (q : Pid) → all_plain (if b then WatchCleared ref ∷ WatcherRemoved q ref ∷ GuardUnwatched ref ∷ [] else CellTouched (cells.Watch ref) ∷ CellTouched (cells.Watchers q) ∷ []) ≡ true
own_watch_plain true ref q = refl
own_watch_plain false ref q = refl

unwatch_plain : (p : Pid) (ref : Ref) (o : Option Pid) → all_plain (watch_ends p ref o) ≡ true
unwatch_plain p ref None = refl
unwatch_plain p ref (Some q) = own_watch_plain (same_pid ref.pid p) ref q

-- a flush takes a message that is there
flush_applies : (w : Contents) (b : Bool) (p : Pid) (o : Option Meaning) → ((m : Meaning) → o ≡ Some m → list_any (same_term m) (mailbox_in w p) ≡ true) → CanApply w (flushed b p o)
flush_applies w true p None there = record {}
flush_applies w true p (Some m) there = (there m refl, record {})
flush_applies w false p o there = record {}

-- changes that need nothing, and then others
plain_then : (w : Contents) (ks ls : List Change) → all_plain ks ≡ true → CanApply (after ks w) ls → CanApply w (ks ++ ls)
plain_then w [] ls e can = can
plain_then w (k ∷ ks) ls e can =
    let both = both_true (is_plain k) (all_plain ks) e in
    (one_plain w k both.0, plain_then (changed k w) ks ls both.1 can)

-- the end of a watch leaves mailboxes
own_watch_alone : (b : Bool) (ref : Ref) (q : Pid) (w : Contents) (p : Pid) → mailbox_in (after (if b then WatchCleared ref ∷ WatcherRemoved q ref ∷ GuardUnwatched ref ∷ [] else CellTouched (cells.Watch ref) ∷ CellTouched (cells.Watchers q) ∷ []) w) p ≡ mailbox_in w p
own_watch_alone true ref q w p = refl
own_watch_alone false ref q w p = refl

unwatch_alone : (p : Pid) (ref : Ref) (o : Option Pid) (w : Contents) → mailbox_in (after (watch_ends p ref o) w) p ≡ mailbox_in w p
unwatch_alone p ref None w = refl
unwatch_alone p ref (Some q) w = own_watch_alone (same_pid ref.pid p) ref q w p

unregister_plain : (name : Name) (o : Option Pid) → all_plain (unregister_line name o).changes ≡ true
unregister_plain name None = refl
unregister_plain name (Some q) = refl

-- ---- calls of tables

-- no message is taken, so what tables need is all that is needed
one_lifted : (sorts : List ℕ) (w : Contents) (k : Change) → ((p : Pid) → is_among sorts (cells.Taken p) ≡ false) → is_among sorts (cell_of k) ≡ true → rules.CanHold w k → CanHold w k
one_lifted sorts w (MessageTaken p message) none here can = absurd (true≢false (sym here ∙ none p))
one_lifted sorts w k none here can = can

lifted : (sorts : List ℕ) (w : Contents) (ks : List Change) → ((p : Pid) → is_among sorts (cells.Taken p) ≡ false) → AllAmong sorts ks → rules.CanApply w ks → CanApply w ks
lifted sorts w [] none among can = record {}
lifted sorts w (k ∷ ks) none among can = (one_lifted sorts w k none among.0 can.0, lifted sorts (changed k w) ks none among.1 can.1)

takes_none : (call : TableCall) (p : Pid) → is_among (table_sorts call) (cells.Taken p) ≡ false
takes_none First p = refl
takes_none call p = refl

found_applies : (v w : Contents) (p : Pid) (call : TableCall) (o : Option Found) → ((f : Found) → o ≡ Some f → w (cells.Table f.ref) ≡ Some f.table) → CanApply w (found_line v p call o).changes
found_applies v w p call None held = record {}
found_applies v w p call (Some f) held = lifted (table_sorts call) w (table_line v p f call).changes (takes_none call) (table_among v p f call) (line_applies v w p f call (held f refl))

named_plain : (v : Contents) (p : Pid) (name : Name) (ref : Ref) (alias : Option AliasEnd) (o : Option Pid) → all_plain (named_line v p name ref alias o).changes ≡ true
named_plain v p name ref alias None = gone_plain false p p ref
named_plain v p name ref alias (Some q) = gone_plain (v (cells.Alive q)) p q ref

unaliased_plain : (b : Bool) (ref : Ref) (o : Option Name) → all_plain (if b then alias_goes ref o else []) ≡ true
unaliased_plain true ref None = refl
unaliased_plain true ref (Some name) = refl
unaliased_plain false ref o = refl

info_plain : (b : Bool) (v : Contents) (p q : Pid) (item : ProcessItem) → all_plain (info_line b v p q item).changes ≡ true
info_plain true v p q item = refl
info_plain false v p q item = refl

-- ---- a call whose changes come after its turn was counted

call_applies : (v w : Contents) (p : Pid) (call : Call) → ((t : Ref) → w (cells.Table t) ≡ v (cells.Table t)) → mailbox_in w p ≡ mailbox_in v p → v (cells.Table (next_ref v p)) ≡ None → CanApply w (line v p call).changes
call_applies v w p (Spawn way None) same mail new = record {}
call_applies v w p (Spawn way (Some origin)) same mail new = plain_applies w (line v p (Spawn way (Some origin))).changes (bound_plain way p (child_of p (v (cells.Machine p))) (ref_of_turn p (v (cells.Machine p))))
call_applies v w p (Send ToNobody message) same mail new = record {}
call_applies v w p (Send (ToProcess q) message) same mail new = plain_applies w (sent (same_pid p q) v p q message) (sent_plain (same_pid p q) v p q message)
call_applies v w p (Send (ToReference ref) message) same mail new = plain_applies w (line v p (Send (ToReference ref) message)).changes (alias_plain v p ref (aliased (v (cells.Guard ref))) message)
call_applies v w p (Send (ToName name) message) same mail new = plain_applies w (sent_to_holder v p (v (cells.Holder name)) message) (holder_plain v p (v (cells.Holder name)) message)
call_applies v w p (Send (ToNode name) message) same mail new = plain_applies w (sent_to_holder v p (v (cells.Holder name)) message) (holder_plain v p (v (cells.Holder name)) message)
call_applies v w p (Send ToAnotherNode message) same mail new = record {}
call_applies v w p (SendExit None reason) same mail new = record {}
call_applies v w p (SendExit (Some q) reason) same mail new = plain_applies w (exited (same_pid p q) v p q reason) (exited_plain (same_pid p q) v p q reason)
call_applies v w p (Link None) same mail new = record {}
call_applies v w p (Link (Some q)) same mail new = let way = link_way p q (v (cells.Links p)) (v (cells.Alive q)) (v (cells.Trap p)) in plain_applies w (link_changes p q way) (link_plain p q way)
call_applies v w p (Unlink None) same mail new = record {}
call_applies v w p (Unlink (Some q)) same mail new = plain_applies w (line v p (Unlink (Some q))).changes refl
call_applies v w p (Monitor false None alias) same mail new = record {}
call_applies v w p (Monitor true None alias) same mail new = record {}
call_applies v w p (Monitor false (Some q) alias) same mail new = record {}
call_applies v w p (Monitor true (Some q) None) same mail new = record {}
call_applies v w p (Monitor true (Some q) (Some alias)) same mail new =
    let ref = ref_of_turn p (v (cells.Machine p)) in
    let begun = alias_beside (same_pid p q) alias in
    plain_applies w (line v p (Monitor true (Some q) (Some alias))).changes (plain_both (alias_begins p ref begun) (gone_told (v (cells.Alive q)) p q ref) (begins_plain p ref begun) (gone_plain (v (cells.Alive q)) p q ref))
call_applies v w p (MonitorName false name alias) same mail new = record {}
call_applies v w p (MonitorName true name None) same mail new = record {}
call_applies v w p (MonitorName true name (Some alias)) same mail new = plain_applies w (line v p (MonitorName true name (Some alias))).changes (named_plain v p name (next_ref v p) alias (v (cells.Holder name)))
call_applies v w p (Demonitor None flushes) same mail new = record {}
call_applies v w p (Demonitor (Some ref) None) same mail new = record {}
call_applies v w p (Demonitor (Some ref) (Some flushes)) same mail new =
    let ends_ = watch_ends p ref (v (cells.Watch ref)) in
    let found = selected_of (is_of_watch ref) (mailbox_in v p) in
    plain_then w ends_ (flushed flushes p found) (unwatch_plain p ref (v (cells.Watch ref)))
    (flush_applies (after ends_ w) flushes p found (λ m is. ap (list_any (same_term m)) (unwatch_alone p ref (v (cells.Watch ref)) w ∙ mail) ∙ selected_there (is_of_watch ref) (mailbox_in v p) m is))
call_applies v w p (Flag None) same mail new = record {}
call_applies v w p (Flag (Some traps)) same mail new = (record {}, record {})
call_applies v w p (Register None None) same mail new = record {}
call_applies v w p (Register None (Some q)) same mail new = record {}
call_applies v w p (Register (Some name) None) same mail new = record {}
call_applies v w p (Register (Some name) (Some q)) same mail new = (record {}, (record {}, record {}))
call_applies v w p (Unregister None) same mail new = record {}
call_applies v w p (Unregister (Some name)) same mail new = plain_applies w (unregister_line name (v (cells.Holder name))).changes (unregister_plain name (v (cells.Holder name)))
call_applies v w p (WhereIs None) same mail new = record {}
call_applies v w p (WhereIs (Some name)) same mail new = record {}
call_applies v w p Registered same mail new = record {}
call_applies v w p (IsAlive None) same mail new = record {}
call_applies v w p (IsAlive (Some q)) same mail new = record {}
call_applies v w p (ProcessInfo None item) same mail new = record {}
call_applies v w p (ProcessInfo (Some q) None) same mail new = record {}
call_applies v w p (ProcessInfo (Some q) (Some item)) same mail new = plain_applies w (line v p (ProcessInfo (Some q) (Some item))).changes (info_plain (same_pid p q) v p q item)
call_applies v w p MakeRef same mail new = record {}
call_applies v w p (MakeAlias None) same mail new = record {}
call_applies v w p (MakeAlias (Some end)) same mail new = (record {}, record {})
call_applies v w p (Unalias None) same mail new = record {}
call_applies v w p (Unalias (Some ref)) same mail new = plain_applies w (line v p (Unalias (Some ref))).changes (unaliased_plain (is_alias_of p (v (cells.Guard ref))) ref (watch_name (v (cells.Guard ref))))
call_applies v w p (StartTimer is_named time None message) same mail new = record {}
call_applies v w p (StartTimer is_named None (Some q) message) same mail new = record {}
call_applies v w p (StartTimer is_named (Some time) (Some q) message) same mail new =
    let ref = ref_of_turn p (v (cells.Machine p)) in
    plain_applies w (line v p (StartTimer is_named (Some time) (Some q) message)).changes (put_plain (v (cells.Alive q)) (child_of p (v (cells.Machine p))) q (Elapsed ref (timer_message is_named ref message)))
call_applies v w p (CancelTimer None) same mail new = record {}
call_applies v w p (CancelTimer (Some ref)) same mail new = plain_applies w (line v p (CancelTimer (Some ref))).changes (cleared_plain (is_some (timer_in (v (cells.Guard ref)))) ref)
call_applies v w p (ReadTimer None) same mail new = record {}
call_applies v w p (ReadTimer (Some ref)) same mail new = record {}
call_applies v w p (New None options) same mail new = record {}
call_applies v w p (New (Some name) None) same mail new = record {}
call_applies v w p (New (Some name) (Some os)) same mail new =
    lifted (12 ∷ 11 ∷ 13 ∷ []) w (line v p (New (Some name) (Some os))).changes (λ q. refl) (call_among v p (New (Some name) (Some os))) (new_applies w p (next_ref v p) name os (same (next_ref v p) ∙ new))
call_applies v w p (OnTable argument call) same mail new = found_applies v w p call (find v argument) (λ f found. same f.ref ∙ found_there v argument f found)
call_applies v w p Misfit same mail new = record {}

-- ---- a message that a turn takes

abbrev selects_of : Request → Meaning → Bool
selects_of (Receives waits selects) = selects
selects_of request = λ _. false

abbrev is_message : Option Deed → Bool
is_message (Some (Received m)) = true
is_message o = false

judged_not : (kind : CallKind) (arguments : List Meaning) (r : Option Refusal) (answer : Meaning) → is_message (Some (judged kind arguments r answer)) ≡ false
judged_not kind arguments None answer = refl
judged_not kind arguments (Some r) answer = refl

ended_not : (kind : CallKind) (arguments : List Meaning) (o : Option Meaning) (r : Option Refusal) (answer : Meaning) → is_message (Some (ended_or kind arguments o (judged kind arguments r answer))) ≡ false
ended_not kind arguments None r answer = judged_not kind arguments r answer
ended_not kind arguments (Some reason) r answer = refl

waits_not : (b : Bool) (d : Deed) → is_message (Some d) ≡ false → is_message (if b then None else Some d) ≡ false
waits_not true d e = refl
waits_not false d e = e

no_message : (v : Contents) (p : Pid) (kind : CallKind) (arguments : List Meaning) (message : Meaning) → deed_of_call v p kind arguments ≡ Some (Received message) → ⊥
no_message v p kind arguments message e =
    let call = call_of kind arguments in
    true≢false (sym (ap is_message e) ∙ waits_not (must_wait v p call) (ended_or kind arguments (ends_itself v p call) (judged kind arguments (line v p call).refusal (line v p call).answer)) (ended_not kind arguments (ends_itself v p call) (line v p call).refusal (line v p call).answer))

by_request : (v : Contents) (p : Pid) (r : Request) (message : Meaning) → deed_asked v p r ≡ Some (Received message) → selected_of (selects_of r) (mailbox_in v p) ≡ Some message
by_request v p (Receives waits selects) message e = of_received waits (selected_of selects (mailbox_in v p)) message e
  where
    of_received : (b : Bool) (o : Option Meaning) (m : Meaning) → received b o ≡ Some (Received m) → o ≡ Some m
    of_received b (Some x) m e = ap (λ d. option_and_then message_of d) e
      where
        message_of : Deed → Option Meaning
        message_of (Received y) = Some y
        message_of d = None
    of_received true None m e = absurd cc
    of_received false None m e = absurd cc
by_request v p (Calls kind arguments) message e = absurd (no_message v p kind arguments message e)
by_request v p (Ends reason) message e = absurd cc
by_request v p RunsAway message e = absurd cc

received_by : (a : Program) (v : Contents) (p : Pid) (message : Meaning) → next_deed a v (Turn p) ≡ Some (Received message) → selected_of (selects_of (asked a p (v (cells.Machine p)))) (mailbox_in v p) ≡ Some message
received_by a v p message e = by_request v p (asked a p (v (cells.Machine p))) message (if_alive (v (cells.Alive p)) (deed_asked v p (asked a p (v (cells.Machine p)))) (Some (Received message)) e refl)
  where
    if_alive : (b : Bool) (x y : Option Deed) → (if b then x else None) ≡ y → is_some y ≡ true → x ≡ y
    if_alive true x y e some = e
    if_alive false x y e some = absurd (true≢false (sym some ∙ ap is_some (sym e)))

-- ---- steps

pub applies : StepsCanBeApplied
applies a v (Turn p) (Served kind arguments answer) is new = call_applies v (after (first_changes (Turn p) (Served kind arguments answer)) v) p (call_of kind arguments) (λ t. refl) refl new
applies a v (Turn p) (Refused kind arguments refusal) is new = record {}
applies a v (Turn p) (EndedItself kind arguments reason) is new = plain_applies _ (left_by (changed (AliveCleared p) v) p reason) (left_plain (changed (AliveCleared p) v) p reason)
applies a v (Turn p) (Received message) is new = (selected_there (selects_of (asked a p (v (cells.Machine p)))) (mailbox_in v p) message (received_by a v p message is), record {})
applies a v (Turn p) TimedOut is new = record {}
applies a v (Turn p) (Ended reason) is new = plain_applies _ (left_by (changed (AliveCleared p) v) p reason) (left_plain (changed (AliveCleared p) v) p reason)
applies a v (Turn p) RanAway is new = plain_applies _ (left_by (changed (AliveCleared p) v) p runaway) (left_plain (changed (AliveCleared p) v) p runaway)
applies a v (Turn p) (Delivered signal fate) is new = record {}
applies a v (Deliver s r) (Delivered signal fate) is new =
    plain_applies _ (goes_with v s r signal ++ changes_of_fate (after (goes_with v s r signal) v) r fate)
    (plain_both (goes_with v s r signal) (changes_of_fate (after (goes_with v s r signal) v) r fate) (goes_plain v s r signal) (fate_plain (after (goes_with v s r signal) v) r fate))
applies a v (Deliver s r) deed is new = record {}
