-- A served call writes cells of its sorts alone.
use Rattle.std.proofs.Common.{◌∙◌, refl, sym, ap, true≢false}
use Rattle.std.specs.List.{list_any}
use Rattle.std.specs.Prelude.{true, false, List, ◌∷◌, ◌==◌, ◌≡◌, ◌++◌, if◌then◌else◌, ◌||◌, ℕ, [], Bool, Option, None, Some, is_some, map}
use Rattle.term_core.specs.Meaning.{Meaning}
use Rattle.world_model.specs.Calls.{Call, Spawn, SpawnWay, Alone, Link, Linked, Watched, TableCall, Insert, InsertNew, New, DeleteTable, DeleteKey, DeleteObject, DeleteAll, Take, UpdateCounter, UpdateElement, GiveAway, SetOptions, Send, ToNobody, ToProcess, ToName, ToReference, ToNode, ToAnotherNode, SendExit, Unlink, Monitor, MonitorName, Demonitor, Flag, Register, Unregister, WhereIs, Registered, IsAlive, ProcessInfo, MakeRef, MakeAlias, Unalias, StartTimer, CancelTimer, ReadTimer, OnTable, Misfit, First}
use Rattle.world_model.specs.Cells.{Watch, Guard, Alive, Cell, meet, Row, Tail, Contents, Holder, Links, Trap, TableName, Machine, Taken, Mailed, Front}
use Rattle.world_model.specs.Changes.{Change, cell_of, HeirSet, after, is_of_watch}
use Rattle.world_model.specs.Ends.{name_freed}
use Rattle.world_model.specs.Events.{Exit, Signal, Message, LinkExit, Down, Guarded, Elapsed}
use Rattle.world_model.specs.Guards.{aliased, is_alias_of, ends_by_reply, timer_in, watch_name}
use Rattle.world_model.specs.TableAccess.{Found, find}
use Rattle.world_model.specs.TableRules.{found_line}
use Rattle.world_model.specs.Lines.{line}
use Rattle.world_model.specs.Mailboxes.{mailbox_in, selected_of}
use Rattle.world_model.specs.Names.{Name, Ref, Pid, same_pid}
use Rattle.world_model.specs.NewTables.{new_line, new_rule}
use Rattle.world_model.specs.Objects.{stored_at, stores, removed_at, given, one_present, keys_asked, alters}
use Rattle.world_model.specs.Ownership.{heirs_set}
use Rattle.world_model.specs.ProcessLines.{sent, bound, exited, sent_to_holder, LinkWay, link_changes, Stands, Pairs, PairsGone, Fails, gone_told, watch_ends, flushed, unregister_line, next_child, next_ref, link_way, send_line, alias_begins, alias_beside, alias_goes, named_line, info_line, timer_message}
use Rattle.world_model.specs.Requests.{Origin}
use Rattle.world_model.specs.Rows.{Key, Object, part_at}
use Rattle.world_model.specs.Signals.{put_if, goes_with, reply_ends}
use Rattle.world_model.specs.TableLines.{table_line}
use Rattle.world_model.specs.Tables as tables
use Rattle.world_model.specs.Tables.{Heir, is_named, TableOption}
use Rattle.world_model.specs.World.{table}
use Rattle.world_model.specs.declared.rule.Rule.{Rule}
use Rattle.world_model.specs.declared.alias.AliasEnd.{AliasEnd}
use Rattle.world_model.specs.declared.process.ProcessItem.{ProcessItem}
use Rattle.world_model.proofs.Commuting.{stays}
use Rattle.world_model.proofs.Meeting.{whole, whole_same}
use Rattle.world_model.proofs.Outcomes.{touches}
use Rattle.world_model.proofs.Sorts.{is_among, send_sorts, sort_of, sorts_of, table_sorts}

abbrev pub AllAmong : List ℕ → List Change → Type 0
AllAmong sorts [] = Unit {0}
AllAmong sorts (k ∷ ks) = (is_among sorts (cell_of k) ≡ true) × AllAmong sorts ks

pub among_both : (sorts : List ℕ) (ks ls : List Change) → AllAmong sorts ks → AllAmong sorts ls → AllAmong sorts (ks ++ ls)
among_both sorts [] ls first second = second
among_both sorts (k ∷ ks) ls first second = (first.0, among_both sorts ks ls first.1 second)

pub among_if : (sorts : List ℕ) (b : Bool) (ks ls : List Change) → AllAmong sorts ks → AllAmong sorts ls → AllAmong sorts (if b then ks else ls)
among_if sorts true ks ls first second = first
among_if sorts false ks ls first second = second

-- cells that meet are of one sort
sort_of_whole : (c : Cell) → sort_of (whole c) ≡ sort_of c
sort_of_whole (Row t k) = refl
sort_of_whole (Holder n) = refl
sort_of_whole c = refl

pub sorts_same : (a b : Cell) → meet a b ≡ true → sort_of a ≡ sort_of b
sorts_same a b e = sym (sort_of_whole a) ∙ ap sort_of (whole_same a b e) ∙ sort_of_whole b

other_cell : (sorts : List ℕ) (k : Change) (c : Cell) (b : Bool) → meet (cell_of k) c ≡ b → is_among sorts (cell_of k) ≡ true → is_among sorts c ≡ false → b ≡ false
other_cell sorts k c true same here other = absurd (true≢false (sym here ∙ ap (λ x. list_any (λ n. n == x) sorts) (sorts_same (cell_of k) c same) ∙ other))
other_cell sorts k c false same here other = refl

pub untouched_by : (sorts : List ℕ) (ks : List Change) (c : Cell) → AllAmong sorts ks → is_among sorts c ≡ false → touches ks c ≡ false
untouched_by sorts [] c all other = refl
untouched_by sorts (k ∷ ks) c all other = ap (λ b. b || touches ks c) (other_cell sorts k c (meet (cell_of k) c) refl all.0 other) ∙ untouched_by sorts ks c all.1 other

-- ---- the calls

bound_among : (way : SpawnWay) (p child : Pid) (ref : Ref) (origin : Option Origin) → AllAmong (sorts_of (Spawn way origin)) (bound way p child ref)
bound_among Alone p child ref origin = tt
bound_among Linked p child ref origin = (refl, (refl, tt))
bound_among Watched p child ref origin = (refl, (refl, tt))

pub put_among : (sorts : List ℕ) (b : Bool) (s r : Pid) (x : Signal) → is_among sorts (Tail s r) ≡ true → AllAmong sorts (put_if b s r x)
put_among sorts true s r x is = (is, tt)
put_among sorts false s r x is = tt

-- what goes with a signal
abbrev pub goes_sorts : List ℕ
goes_sorts = 6 ∷ 7 ∷ 8 ∷ 16 ∷ []

reply_among : (sorts : List ℕ) (b : Bool) (ref : Ref) (o : Option Pid) → (list_any (λ n. n == 16) sorts ≡ true) → (list_any (λ n. n == 8) sorts ≡ true) → (list_any (λ n. n == 7) sorts ≡ true) → AllAmong sorts (reply_ends b ref o)
reply_among sorts true ref None guard watch watcher = (guard, tt)
reply_among sorts true ref (Some q) guard watch watcher = (guard, (watch, (watcher, tt)))
reply_among sorts false ref o guard watch watcher = tt

pub reply_off : (b : Bool) (ref : Ref) (o : Option Pid) (c : Cell) → is_among (16 ∷ 8 ∷ 7 ∷ []) c ≡ false → touches (reply_ends b ref o) c ≡ false
reply_off b ref o c other = untouched_by (16 ∷ 8 ∷ 7 ∷ []) (reply_ends b ref o) c (reply_among (16 ∷ 8 ∷ 7 ∷ []) b ref o refl refl refl) other

goes_among : (v : Contents) (s r : Pid) (x : Signal) → AllAmong goes_sorts (goes_with v s r x)
goes_among v s r (Message m) = tt
goes_among v s r (Exit reason) = tt
goes_among v s r (LinkExit reason) = (refl, (refl, tt))
goes_among v s r (Down ref reason) = (refl, (refl, (refl, tt)))
goes_among v s r (Guarded ref m) = reply_among goes_sorts (ends_by_reply r (v (Guard ref))) ref (v (Watch ref)) refl refl refl
goes_among v s r (Elapsed ref m) = (refl, tt)

pub goes_off : (v : Contents) (s r : Pid) (x : Signal) (c : Cell) → is_among goes_sorts c ≡ false → touches (goes_with v s r x) c ≡ false
goes_off v s r x c other = untouched_by goes_sorts (goes_with v s r x) c (goes_among v s r x) other

sent_among : (b : Bool) (v : Contents) (p to : Pid) (m : Meaning) → AllAmong send_sorts (sent b v p to m)
sent_among true v p to m = (refl, tt)
sent_among false v p to m = put_among send_sorts (v (Alive to)) p to (Message m) refl

exited_among : (b : Bool) (v : Contents) (p to : Pid) (m : Meaning) → AllAmong (3 ∷ 5 ∷ []) (exited b v p to m)
exited_among true v p to m = (refl, tt)
exited_among false v p to m = put_among (3 ∷ 5 ∷ []) (v (Alive to)) p to (Exit m) refl

holder_among : (v : Contents) (p : Pid) (o : Option Pid) (m : Meaning) → AllAmong send_sorts (sent_to_holder v p o m)
holder_among v p None m = tt
holder_among v p (Some to) m = sent_among (same_pid p to) v p to m

aliased_among : (v : Contents) (p : Pid) (ref : Ref) (o : Option Pid) (m : Meaning) → AllAmong send_sorts (send_line v p ref o m).changes
aliased_among v p ref None m = tt
aliased_among v p ref (Some to) m = put_among send_sorts (v (Alive to)) p to (Guarded ref m) refl

link_among : (p q : Pid) (way : LinkWay) → AllAmong (6 ∷ 5 ∷ []) (link_changes p q way)
link_among p q Stands = (refl, (refl, tt))
link_among p q Pairs = (refl, (refl, tt))
link_among p q PairsGone = (refl, (refl, (refl, tt)))
link_among p q Fails = tt

begins_among : (p : Pid) (ref : Ref) (o : Option AliasEnd) → AllAmong (8 ∷ 7 ∷ 16 ∷ 5 ∷ []) (alias_begins p ref o)
begins_among p ref None = tt
begins_among p ref (Some end) = (refl, tt)

gone_among : (b : Bool) (p q : Pid) (ref : Ref) → AllAmong (8 ∷ 7 ∷ 16 ∷ 5 ∷ []) (gone_told b p q ref)
gone_among true p q ref = tt
gone_among false p q ref = (refl, tt)

named_among : (v : Contents) (p : Pid) (name : Name) (ref : Ref) (alias : Option AliasEnd) (o : Option Pid) → AllAmong (8 ∷ 7 ∷ 16 ∷ 5 ∷ []) (named_line v p name ref alias o).changes
named_among v p name ref alias None = (refl, (refl, (refl, gone_among false p p ref)))
named_among v p name ref alias (Some q) = (refl, (refl, (refl, gone_among (v (Alive q)) p q ref)))

ended_among : (ref : Ref) (o : Option Name) → AllAmong (16 ∷ []) (alias_goes ref o)
ended_among ref None = (refl, tt)
ended_among ref (Some name) = (refl, tt)

info_among : (b : Bool) (v : Contents) (p q : Pid) (item : ProcessItem) → AllAmong [] (info_line b v p q item).changes
info_among true v p q item = tt
info_among false v p q item = tt

watch_among : (p : Pid) (ref : Ref) (o : Option Pid) → AllAmong (8 ∷ 7 ∷ 16 ∷ 15 ∷ []) (watch_ends p ref o)
watch_among p ref None = (refl, tt)
watch_among p ref (Some q) = among_if (8 ∷ 7 ∷ 16 ∷ 15 ∷ []) (same_pid ref.pid p) _ _ (refl, (refl, (refl, tt))) (refl, (refl, tt))

flushed_among : (b : Bool) (p : Pid) (o : Option Meaning) → AllAmong (8 ∷ 7 ∷ 16 ∷ 15 ∷ []) (flushed b p o)
flushed_among false p o = tt
flushed_among true p None = tt
flushed_among true p (Some m) = (refl, tt)

unregistered_among : (n : Name) (o : Option Pid) → AllAmong (9 ∷ 10 ∷ []) (unregister_line n o).changes
unregistered_among n None = tt
unregistered_among n (Some q) = (refl, (refl, tt))

stored_among : (f : Found) (o : Object) (k : Option Key) → AllAmong (14 ∷ []) (stored_at f o k)
stored_among f o None = tt
stored_among f o (Some k) = (refl, tt)

stores_among : (f : Found) (os : List Object) → AllAmong (14 ∷ []) (stores f os)
stores_among f [] = tt
stores_among f (o ∷ os) = among_both (14 ∷ []) (stored_at f o (part_at f.table.position o)) (stores f os) (stored_among f o (part_at f.table.position o)) (stores_among f os)

removed_among : (f : Found) (o : Object) (k : Option Key) → AllAmong (14 ∷ []) (removed_at f o k)
removed_among f o None = tt
removed_among f o (Some k) = (refl, tt)

altered_among : (f : Found) (key : Key) (changes : Option (List (ℕ × Meaning))) (there : List Object) → AllAmong (14 ∷ []) (alters f key changes there)
altered_among f key changes [] = tt
altered_among f key changes (object ∷ objects) = (refl, tt)

heirs_among : (t : Ref) (hs : List Heir) → AllAmong (12 ∷ []) (map (HeirSet t) hs)
heirs_among t [] = tt
heirs_among t (h ∷ hs) = (refl, heirs_among t hs)

set_among : (t : Ref) (hs : List Heir) → AllAmong (12 ∷ []) (heirs_set t hs)
set_among t [] = (refl, tt)
set_among t (h ∷ hs) = heirs_among t (h ∷ hs)

freed_among : (table : tables.Table) → AllAmong (12 ∷ 14 ∷ 13 ∷ 11 ∷ []) (name_freed table)
freed_among table = among_if (12 ∷ 14 ∷ 13 ∷ 11 ∷ []) table.is_named _ _ (refl, tt) tt

pub table_among : (v : Contents) (p : Pid) (f : Found) (call : TableCall) → AllAmong (table_sorts call) (table_line v p f call).changes
table_among v p f (Insert objects) = stores_among f (given objects)
table_among v p f (InsertNew objects) = among_if (14 ∷ []) (one_present v f.ref (keys_asked p f objects)) [] (stores f (given objects)) tt (stores_among f (given objects))
table_among v p f DeleteTable = (refl, (refl, (refl, freed_among f.table)))
table_among v p f (DeleteKey key) = (refl, tt)
table_among v p f (DeleteObject None) = tt
table_among v p f (DeleteObject (Some o)) = removed_among f o (part_at f.table.position o)
table_among v p f DeleteAll = (refl, tt)
table_among v p f (Take key) = (refl, tt)
table_among v p f (UpdateCounter key increment default) = (refl, tt)
table_among v p f (UpdateElement key changes) = altered_among f key changes (v (Row f.ref key))
table_among v p f (GiveAway None gift_) = tt
table_among v p f (GiveAway (Some to) gift_) = (refl, (refl, (refl, (refl, tt))))
table_among v p f (SetOptions None) = (refl, tt)
table_among v p f (SetOptions (Some hs)) = set_among f.ref hs
table_among v p f call = tt

found_among : (v : Contents) (p : Pid) (call : TableCall) (o : Option Found) → AllAmong (table_sorts call) (found_line v p call o).changes
found_among v p call None = tt
found_among v p call (Some f) = table_among v p f call

made_among : (p : Pid) (t : Ref) (name : Name) (options : Option (List TableOption)) (rule : Option Rule) → AllAmong (12 ∷ 11 ∷ 13 ∷ []) (new_line p t name options rule).changes
made_among p t name None rule = tt
made_among p t name (Some os) rule = (refl, (refl, among_if (12 ∷ 11 ∷ 13 ∷ []) (is_named os) _ _ (refl, tt) tt))

pub call_among : (v : Contents) (p : Pid) (call : Call) → AllAmong (sorts_of call) (line v p call).changes
call_among v p (Spawn way None) = tt
call_among v p (Spawn way (Some origin)) = (refl, (refl, bound_among way p (next_child v p) (next_ref v p) (Some origin)))
call_among v p (Send ToNobody m) = tt
call_among v p (Send (ToProcess q) m) = sent_among (same_pid p q) v p q m
call_among v p (Send (ToReference ref) m) = aliased_among v p ref (aliased (v (Guard ref))) m
call_among v p (Send (ToName name) m) = holder_among v p (v (Holder name)) m
call_among v p (Send (ToNode name) m) = holder_among v p (v (Holder name)) m
call_among v p (Send ToAnotherNode m) = tt
call_among v p (SendExit None reason) = tt
call_among v p (SendExit (Some q) reason) = exited_among (same_pid p q) v p q reason
call_among v p (Link None) = tt
call_among v p (Link (Some q)) = link_among p q (link_way p q (v (Links p)) (v (Alive q)) (v (Trap p)))
call_among v p (Unlink None) = tt
call_among v p (Unlink (Some q)) = (refl, (refl, tt))
call_among v p (Monitor is_process None alias) = tt
call_among v p (Monitor false (Some q) alias) = tt
call_among v p (Monitor true (Some q) None) = tt
call_among v p (Monitor true (Some q) (Some alias)) =
    (refl, (refl, among_both (8 ∷ 7 ∷ 16 ∷ 5 ∷ []) (alias_begins p (next_ref v p) (alias_beside (same_pid p q) alias)) (gone_told (v (Alive q)) p q (next_ref v p)) (begins_among p (next_ref v p) (alias_beside (same_pid p q) alias)) (gone_among (v (Alive q)) p q (next_ref v p))))
call_among v p (MonitorName false name alias) = tt
call_among v p (MonitorName true name None) = tt
call_among v p (MonitorName true name (Some alias)) = named_among v p name (next_ref v p) alias (v (Holder name))
call_among v p (Demonitor None flushes) = tt
call_among v p (Demonitor (Some ref) None) = tt
call_among v p (Demonitor (Some ref) (Some flushes)) =
    let found = selected_of (is_of_watch ref) (mailbox_in v p) in
    among_both (8 ∷ 7 ∷ 16 ∷ 15 ∷ []) (watch_ends p ref (v (Watch ref))) (flushed flushes p found) (watch_among p ref (v (Watch ref))) (flushed_among flushes p found)
call_among v p (Flag None) = tt
call_among v p (Flag (Some b)) = (refl, tt)
call_among v p (Register None None) = tt
call_among v p (Register None (Some q)) = tt
call_among v p (Register (Some n) None) = tt
call_among v p (Register (Some n) (Some q)) = (refl, (refl, tt))
call_among v p (Unregister None) = tt
call_among v p (Unregister (Some n)) = unregistered_among n (v (Holder n))
call_among v p (WhereIs None) = tt
call_among v p (WhereIs (Some n)) = tt
call_among v p Registered = tt
call_among v p (IsAlive None) = tt
call_among v p (IsAlive (Some q)) = tt
call_among v p (ProcessInfo None item) = tt
call_among v p (ProcessInfo (Some q) None) = tt
call_among v p (ProcessInfo (Some q) (Some item)) = info_among (same_pid p q) v p q item
call_among v p MakeRef = tt
call_among v p (MakeAlias None) = tt
call_among v p (MakeAlias (Some end)) = (refl, tt)
call_among v p (Unalias None) = tt
call_among v p (Unalias (Some ref)) = among_if (16 ∷ []) (is_alias_of p (v (Guard ref))) _ [] (ended_among ref (watch_name (v (Guard ref)))) tt
call_among v p (StartTimer is_named time None m) = tt
call_among v p (StartTimer is_named None (Some q) m) = tt
call_among v p (StartTimer is_named (Some time) (Some q) m) = (refl, put_among (16 ∷ 5 ∷ []) (v (Alive q)) (next_child v p) q (Elapsed (next_ref v p) (timer_message is_named (next_ref v p) m)) refl)
call_among v p (CancelTimer None) = tt
call_among v p (CancelTimer (Some ref)) = among_if (16 ∷ []) (is_some (timer_in (v (Guard ref)))) _ [] (refl, tt) tt
call_among v p (ReadTimer None) = tt
call_among v p (ReadTimer (Some ref)) = tt
call_among v p (New None options) = tt
call_among v p (New (Some name) options) = made_among p (next_ref v p) name options (new_rule options (v (TableName name)))
call_among v p (OnTable argument call) = found_among v p call (find v argument)
call_among v p Misfit = tt

-- so a cell of another sort contains what it did
pub call_leaves : (v w : Contents) (p : Pid) (call : Call) (c : Cell) → is_among (sorts_of call) c ≡ false → after (line v p call).changes w c ≡ w c
call_leaves v w p call c other = stays (line v p call).changes w c (untouched_by (sorts_of call) (line v p call).changes c (call_among v p call) other)

-- a call of a table takes no life, sets no flag, and so on
pub no_life : (call : TableCall) (q : Pid) → is_among (table_sorts call) (Alive q) ≡ false
no_life First q = refl
no_life call q = refl

pub no_flag : (call : TableCall) (q : Pid) → is_among (table_sorts call) (Trap q) ≡ false
no_flag First q = refl
no_flag call q = refl

pub no_course : (call : TableCall) (q : Pid) → is_among (table_sorts call) (Machine q) ≡ false
no_course First q = refl
no_course call q = refl

pub no_mail : (call : TableCall) (q : Pid) → is_among (table_sorts call) (Mailed q) ≡ false
no_mail First q = refl
no_mail call q = refl

pub none_taken : (call : TableCall) (q : Pid) → is_among (table_sorts call) (Taken q) ≡ false
none_taken First q = refl
none_taken call q = refl

pub no_link : (call : TableCall) (q : Pid) → is_among (table_sorts call) (Links q) ≡ false
no_link First q = refl
no_link call q = refl

pub no_guard : (call : TableCall) (ref : Ref) → is_among (table_sorts call) (Guard ref) ≡ false
no_guard First ref = refl
no_guard call ref = refl

pub no_watch : (call : TableCall) (ref : Ref) → is_among (table_sorts call) (Watch ref) ≡ false
no_watch First ref = refl
no_watch call ref = refl

pub no_holder : (call : TableCall) (n : Name) → is_among (table_sorts call) (Holder n) ≡ false
no_holder First n = refl
no_holder call n = refl

pub no_front : (call : TableCall) (s r : Pid) → is_among (table_sorts call) (Front s r) ≡ false
no_front First s r = refl
no_front call s r = refl
