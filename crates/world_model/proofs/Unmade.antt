-- What makes a table or a watch: what is not there stays away, except for a new one.
use Rattle.std.proofs.Common.{◌≡◌, Bool, true, false, List, [], ◌∷◌, map, ap, Option, Some, None, refl, ◌∙◌, if◌then◌else◌}
use Rattle.std.specs.Prelude.{option_map}
use Rattle.term_core.specs.Meaning.{Meaning}
use Rattle.term_core.specs.declared.step.Step.{Step}
use Rattle.term_core.specs.declared.step.Step.TheVariants.{Turn, Deliver}
use Rattle.world_model.specs.Calls.{Call, New, call_of, TableCall, DeleteTable, GiveAway, SetOptions, OnTable, Spawn, Monitor, MonitorName, SpawnWay, Alone, Linked, Watched, Demonitor}
use Rattle.world_model.specs.Cells.{Table, Contents, meet, TableName, Watch, Watchers, Guard, Alive, Holder}
use Rattle.world_model.specs.Changes.{is_of_watch, after, HeirSet, changed, TableNameCleared, TableRemoved, RowsCleared, OwnedRemoved, AliveCleared, MachineHalted, SignalDelivered, WatchCleared, WatcherRemoved, GuardSet, GuardUnwatched, CellTouched}
use Rattle.world_model.specs.Ends.{ends}
use Rattle.world_model.specs.Events.{Deed, Served, Signal, Message, Exit, LinkExit, Down, Guarded, Elapsed, Fate, Arrives, IsIgnored, IsDropped, Kills, Refused, Ended, EndedItself, Received, TimedOut, RanAway, Delivered}
use Rattle.world_model.specs.Guards.{ends_by_reply}
use Rattle.world_model.specs.TableAccess.{Found, find}
use Rattle.world_model.specs.TableRules.{found_line}
use Rattle.world_model.specs.Lines.{line}
use Rattle.world_model.specs.Mailboxes.{mailbox_in, selected_of}
use Rattle.world_model.specs.Names.{Pid, Ref, same_ref, Name, same_pid}
use Rattle.world_model.specs.NewTables.{means_if, new_line, new_rule}
use Rattle.world_model.specs.OwnershipLaws.{table_passed}
use Rattle.world_model.specs.Ownership.{heirs_set}
use Rattle.world_model.specs.ProcessLines.{next_ref, bound, gone_told, flushed, watch_ends, next_child, watch_begins, alias_begins, alias_beside, named_guard, named_line}
use Rattle.world_model.specs.Signals.{goes_with, reply_ends}
use Rattle.world_model.specs.Steps.{changes_of_fate, changes_by, runaway}
use Rattle.world_model.specs.TableLines.{table_line}
use Rattle.world_model.specs.Tables as tables
use Rattle.world_model.specs.Tables.{Heir, with_heir, is_named, owned_by, TableOption, table_of}
use Rattle.world_model.specs.declared.rule.Rule.{Rule}
use Rattle.world_model.specs.declared.alias.AliasEnd.{AliasEnd}
use Rattle.world_model.proofs.Commuting.{stays, either_way}
use Rattle.world_model.proofs.EndSorts.{after_both, end_leaves}
use Rattle.world_model.proofs.OwnerLaws.{end_passes}
use Rattle.world_model.proofs.SortLaws.{goes_off, untouched_by, table_among, call_leaves, no_watch}
use Rattle.world_model.proofs.Sorts.{table_sorts}

-- ---- tables

-- whether a call makes this table, and watches by this reference
abbrev pub makes_by : Contents → Pid → Call → Ref → Bool
makes_by v p (New name options) t = same_ref (next_ref v p) t
makes_by v p call t = false

abbrev pub makes_in : Contents → Step → Deed → Ref → Bool
makes_in v (Turn p) (Served kind arguments answer) t = makes_by v p (call_of kind arguments) t
makes_in v step deed t = false

none_if : {A : Type 0} (b : Bool) (x : Option A) → x ≡ None → (if b then None else x) ≡ None
none_if true x is = refl
none_if false x is = is

mapped_if : {A : Type 0} (b : Bool) (f : A → A) (x : Option A) → x ≡ None → (if b then option_map f x else x) ≡ None
mapped_if true f x is = ap (option_map f) is
mapped_if false f x is = is

some_if_not : {A : Type 0} (b : Bool) (y x : Option A) → b ≡ false → (if b then y else x) ≡ x
some_if_not b y x is = ap (λ c. if c then y else x) is

heirs_none : (u t : Ref) (hs : List Heir) (w : Contents) → w (Table t) ≡ None → after (map (HeirSet u) hs) w (Table t) ≡ None
heirs_none u t [] w is = is
heirs_none u t (h ∷ hs) w is = heirs_none u t hs (changed (HeirSet u h) w) (mapped_if (same_ref u t) (with_heir h) (w (Table t)) is)

set_none : (u t : Ref) (hs : List Heir) (w : Contents) → w (Table t) ≡ None → after (heirs_set u hs) w (Table t) ≡ None
set_none u t [] w is = either_way (meet (Table u) (Table t)) (w (Table t)) ∙ is
set_none u t (h ∷ hs) w is = heirs_none u t (h ∷ hs) w is

freed_none : (b : Bool) (name : Name) (w : Contents) (t : Ref) → after (if b then TableNameCleared name ∷ [] else []) w (Table t) ≡ w (Table t)
freed_none true name w t = refl
freed_none false name w t = refl

line_none : (v w : Contents) (p : Pid) (f : Found) (call : TableCall) (t : Ref) → w (Table t) ≡ None → after (table_line v p f call).changes w (Table t) ≡ None
line_none v w p f DeleteTable t is = freed_none f.table.is_named f.table.name (after (TableRemoved f.ref ∷ RowsCleared f.ref ∷ OwnedRemoved f.table.owner f.ref ∷ []) w) t ∙ none_if (same_ref f.ref t) (w (Table t)) is
line_none v w p f (GiveAway None gift_) t is = is
line_none v w p f (GiveAway (Some to) gift_) t is = mapped_if (same_ref f.ref t) (owned_by to) (w (Table t)) is
line_none v w p f (SetOptions None) t is = set_none f.ref t [] w is
line_none v w p f (SetOptions (Some hs)) t is = set_none f.ref t hs w is
line_none v w p f call t is = stays (table_line v p f call).changes w (Table t) (untouched_by (table_sorts call) (table_line v p f call).changes (Table t) (table_among v p f call) refl) ∙ is

found_none : (v w : Contents) (p : Pid) (call : TableCall) (o : Option Found) (t : Ref) → w (Table t) ≡ None → after (found_line v p call o).changes w (Table t) ≡ None
found_none v w p call None t is = is
found_none v w p call (Some f) t is = line_none v w p f call t is

means_none : (b : Bool) (name : Name) (u t : Ref) (w : Contents) → after (means_if b name u) w (Table t) ≡ w (Table t)
means_none true name u t w = refl
means_none false name u t w = refl

made_none : (p : Pid) (u : Ref) (name : Name) (options : Option (List TableOption)) (rule : Option Rule) (w : Contents) (t : Ref) → same_ref u t ≡ false → w (Table t) ≡ None → after (new_line p u name options rule).changes w (Table t) ≡ None
made_none p u name None rule w t other is = is
made_none p u name (Some os) rule w t other is = means_none (is_named os) name u t _ ∙ some_if_not (same_ref u t) (Some (table_of p name os)) (w (Table t)) other ∙ is

call_none : (v w : Contents) (p : Pid) (call : Call) (t : Ref) → makes_by v p call t ≡ false → w (Table t) ≡ None → after (line v p call).changes w (Table t) ≡ None
call_none v w p (New None options) t other is = is
call_none v w p (New (Some name) options) t other is = made_none p (next_ref v p) name options (new_rule options (v (TableName name))) w t other is
call_none v w p (OnTable argument call) t other is = found_none v w p call (find v argument) t is
call_none v w p call t other is = call_leaves v w p call (Table t) refl ∙ is

left_none : (b : Bool) (heir : Heir) (x : Option tables.Table) → x ≡ None → (if b then table_passed heir x else x) ≡ None
left_none true None x is = refl
left_none true (Some heir) x is = ap (option_map (owned_by heir.0)) is
left_none false heir x is = is

pub end_none : (v w : Contents) (p : Pid) (reason : Meaning) (t : Ref) → w (Table t) ≡ None → after (ends v p reason) w (Table t) ≡ None
end_none v w p reason t is = end_passes (changed (AliveCleared p) v) (changed (AliveCleared p) (changed (MachineHalted p reason) w)) p reason t ∙ left_none _ _ (w (Table t)) is

fate_none : (v w : Contents) (r : Pid) (t : Ref) (f : Fate) → w (Table t) ≡ None → after (changes_of_fate v r f) w (Table t) ≡ None
fate_none v w r t (Arrives m) is = is
fate_none v w r t IsIgnored is = is
fate_none v w r t IsDropped is = is
fate_none v w r t (Kills reason) is = end_none v w r reason t is

pub table_none : (v : Contents) (step : Step) (deed : Deed) (t : Ref) → makes_in v step deed t ≡ false → v (Table t) ≡ None → after (changes_by v step deed) v (Table t) ≡ None
table_none v (Turn p) (Served kind arguments answer) t other is = call_none v _ p (call_of kind arguments) t other is
table_none v (Turn p) (Refused kind arguments refusal) t other is = is
table_none v (Turn p) (EndedItself kind arguments reason) t other is = end_none v _ p reason t is
table_none v (Turn p) (Received m) t other is = is
table_none v (Turn p) TimedOut t other is = is
table_none v (Turn p) (Ended reason) t other is = end_none v _ p reason t is
table_none v (Turn p) RanAway t other is = end_none v _ p runaway t is
table_none v (Turn p) (Delivered x f) t other is = is
table_none v (Deliver s r) (Delivered x f) t other is =
    let ks = goes_with v s r x in
    let w = changed (SignalDelivered s r) v in
    after_both ks (changes_of_fate (after ks v) r f) w (Table t) ∙ fate_none (after ks v) (after ks w) r t f (stays ks w (Table t) (goes_off v s r x (Table t) refl) ∙ is)
table_none v (Deliver s r) deed t other is = is

-- ---- watches

abbrev pub watches_by : Contents → Pid → Call → Ref → Bool
watches_by v p (Spawn way origin) ref = same_ref (next_ref v p) ref
watches_by v p (Monitor is_process whom alias) ref = same_ref (next_ref v p) ref
watches_by v p (MonitorName is_process name alias) ref = same_ref (next_ref v p) ref
watches_by v p call ref = false

abbrev pub watches_in : Contents → Step → Deed → Ref → Bool
watches_in v (Turn p) (Served kind arguments answer) ref = watches_by v p (call_of kind arguments) ref
watches_in v step deed ref = false

bound_none : (way : SpawnWay) (p child : Pid) (u ref : Ref) (w : Contents) → same_ref u ref ≡ false → w (Watch ref) ≡ None → after (bound way p child u) w (Watch ref) ≡ None
bound_none Alone p child u ref w other is = is
bound_none Linked p child u ref w other is = is
bound_none Watched p child u ref w other is = some_if_not (same_ref u ref) (Some child) (w (Watch ref)) other ∙ is

told_none : (b : Bool) (p q : Pid) (u ref : Ref) (w : Contents) → after (gone_told b p q u) w (Watch ref) ≡ w (Watch ref)
told_none true p q u ref w = refl
told_none false p q u ref w = refl

flush_none : (b : Bool) (p : Pid) (o : Option Meaning) (ref : Ref) (w : Contents) → after (flushed b p o) w (Watch ref) ≡ w (Watch ref)
flush_none false p o ref w = refl
flush_none true p None ref w = refl
flush_none true p (Some m) ref w = refl

begins_none : (p : Pid) (u : Ref) (o : Option AliasEnd) (ref : Ref) (w : Contents) → after (alias_begins p u o) w (Watch ref) ≡ w (Watch ref)
begins_none p u None ref w = refl
begins_none p u (Some end) ref w = refl

-- a reply begins no watch
reply_none : (b : Bool) (u ref : Ref) (o : Option Pid) (w : Contents) → w (Watch ref) ≡ None → after (reply_ends b u o) w (Watch ref) ≡ None
reply_none true u ref None w is = is
reply_none true u ref (Some q) w is = none_if (same_ref u ref) (w (Watch ref)) is
reply_none false u ref o w is = is

ends_by : (b : Bool) (q : Pid) (u ref : Ref) (w : Contents) → w (Watch ref) ≡ None → after (if b then WatchCleared u ∷ WatcherRemoved q u ∷ GuardUnwatched u ∷ [] else CellTouched (Watch u) ∷ CellTouched (Watchers q) ∷ []) w (Watch ref) ≡ None
ends_by true q u ref w is = none_if (same_ref u ref) (w (Watch ref)) is
ends_by false q u ref w is = either_way (same_ref u ref) (w (Watch ref)) ∙ is

ended_none : (p : Pid) (u ref : Ref) (o : Option Pid) (w : Contents) → w (Watch ref) ≡ None → after (watch_ends p u o) w (Watch ref) ≡ None
ended_none p u ref None w is = either_way (same_ref u ref) (w (Watch ref)) ∙ is
ended_none p u ref (Some q) w is = ends_by (same_pid u.pid p) q u ref w is

named_none : (v w : Contents) (p : Pid) (name : Name) (u : Ref) (alias : Option AliasEnd) (o : Option Pid) (ref : Ref) → same_ref u ref ≡ false → w (Watch ref) ≡ None → after (named_line v p name u alias o).changes w (Watch ref) ≡ None
named_none v w p name u alias None ref other is =
    told_none false p p u ref (changed (GuardSet u (named_guard p name alias)) (after (watch_begins u p) w)) ∙ some_if_not (same_ref u ref) (Some p) (w (Watch ref)) other ∙ is
named_none v w p name u alias (Some q) ref other is =
    told_none (v (Alive q)) p q u ref (changed (GuardSet u (named_guard p name (alias_beside (same_pid p q) alias))) (after (watch_begins u q) w)) ∙ some_if_not (same_ref u ref) (Some q) (w (Watch ref)) other ∙ is

call_unwatched : (v w : Contents) (p : Pid) (call : Call) (ref : Ref) → watches_by v p call ref ≡ false → w (Watch ref) ≡ None → after (line v p call).changes w (Watch ref) ≡ None
call_unwatched v w p (Spawn way None) ref other is = is
call_unwatched v w p (Spawn way (Some origin)) ref other is = bound_none way p (next_child v p) (next_ref v p) ref _ other is
call_unwatched v w p (Monitor is_process None alias) ref other is = is
call_unwatched v w p (Monitor false (Some q) alias) ref other is = is
call_unwatched v w p (Monitor true (Some q) None) ref other is = is
call_unwatched v w p (Monitor true (Some q) (Some alias)) ref other is =
    let u = next_ref v p in
    let mid = after (watch_begins u q) w in
    let begun = alias_beside (same_pid p q) alias in
    after_both (alias_begins p u begun) (gone_told (v (Alive q)) p q u) mid (Watch ref) ∙ told_none (v (Alive q)) p q u ref (after (alias_begins p u begun) mid) ∙ begins_none p u begun ref mid ∙ some_if_not (same_ref u ref) (Some q) (w (Watch ref)) other ∙ is
call_unwatched v w p (MonitorName false name alias) ref other is = is
call_unwatched v w p (MonitorName true name None) ref other is = is
call_unwatched v w p (MonitorName true name (Some alias)) ref other is = named_none v w p name (next_ref v p) alias (v (Holder name)) ref other is
call_unwatched v w p (Demonitor None flushes) ref other is = is
call_unwatched v w p (Demonitor (Some u) None) ref other is = is
call_unwatched v w p (Demonitor (Some u) (Some flushes)) ref other is =
    let found = selected_of (is_of_watch u) (mailbox_in v p) in
    after_both (watch_ends p u (v (Watch u))) (flushed flushes p found) w (Watch ref)
    ∙ flush_none flushes p found ref (after (watch_ends p u (v (Watch u))) w) ∙ ended_none p u ref (v (Watch u)) w is
call_unwatched v w p (OnTable argument call) ref other is = call_leaves v w p (OnTable argument call) (Watch ref) (no_watch call ref) ∙ is
call_unwatched v w p call ref other is = call_leaves v w p call (Watch ref) refl ∙ is

goes_unwatched : (v : Contents) (s r : Pid) (ref : Ref) (x : Signal) (w : Contents) → w (Watch ref) ≡ None → after (goes_with v s r x) w (Watch ref) ≡ None
goes_unwatched v s r ref (Message m) w is = is
goes_unwatched v s r ref (Exit reason) w is = is
goes_unwatched v s r ref (LinkExit reason) w is = is
goes_unwatched v s r ref (Down u reason) w is = none_if (same_ref u ref) (w (Watch ref)) is
goes_unwatched v s r ref (Guarded u m) w is = reply_none (ends_by_reply r (v (Guard u))) u ref (v (Watch u)) w is
goes_unwatched v s r ref (Elapsed u m) w is = is

fate_unwatched : (v w : Contents) (r : Pid) (ref : Ref) (f : Fate) → w (Watch ref) ≡ None → after (changes_of_fate v r f) w (Watch ref) ≡ None
fate_unwatched v w r ref (Arrives m) is = is
fate_unwatched v w r ref IsIgnored is = is
fate_unwatched v w r ref IsDropped is = is
fate_unwatched v w r ref (Kills reason) is = end_leaves v w r reason (Watch ref) refl ∙ is

pub watch_none : (v : Contents) (step : Step) (deed : Deed) (ref : Ref) → watches_in v step deed ref ≡ false → v (Watch ref) ≡ None → after (changes_by v step deed) v (Watch ref) ≡ None
watch_none v (Turn p) (Served kind arguments answer) ref other is = call_unwatched v _ p (call_of kind arguments) ref other is
watch_none v (Turn p) (Refused kind arguments refusal) ref other is = is
watch_none v (Turn p) (EndedItself kind arguments reason) ref other is = end_leaves v _ p reason (Watch ref) refl ∙ is
watch_none v (Turn p) (Received m) ref other is = is
watch_none v (Turn p) TimedOut ref other is = is
watch_none v (Turn p) (Ended reason) ref other is = end_leaves v _ p reason (Watch ref) refl ∙ is
watch_none v (Turn p) RanAway ref other is = end_leaves v _ p runaway (Watch ref) refl ∙ is
watch_none v (Turn p) (Delivered x f) ref other is = is
watch_none v (Deliver s r) (Delivered x f) ref other is =
    let ks = goes_with v s r x in
    let w = changed (SignalDelivered s r) v in
    after_both ks (changes_of_fate (after ks v) r f) w (Watch ref) ∙ fate_unwatched (after ks v) (after ks w) r ref f (goes_unwatched v s r ref x w is)
watch_none v (Deliver s r) deed ref other is = is
