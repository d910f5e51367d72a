-- The law of frames of each call: contents that agree on what its line reads give it the same line.
use Rattle.std.proofs.Common.{◌∙◌, refl, ap, subst, sym}
use Rattle.std.specs.FinMap.{keys}
use Rattle.std.specs.Prelude.{if◌then◌else◌, ◌≡◌, ◌∷◌, Bool, true, false, Option, None, Some, [], List, codes, ℤ, length, map, option_map}
use Rattle.term_core.specs.Meaning.{Meaning}
use Rattle.world_model.specs.Calls.{Call, Spawn, Send, ToNobody, ToProcess, ToName, ToReference, ToNode, ToAnotherNode, SendExit, Link, Unlink, Monitor, MonitorName, Demonitor, Flag, Register, Unregister, WhereIs, Registered, IsAlive, ProcessInfo, MakeRef, MakeAlias, Unalias, StartTimer, CancelTimer, ReadTimer, New, OnTable, Misfit}
use Rattle.world_model.specs.Cells.{Contents, TableName, Holder, Holders, Machine, Trap, Alive, Front, Tail, Watch, Guard}
use Rattle.world_model.specs.Changes.{TrapSet, GuardSet, is_of_watch}
use Rattle.world_model.specs.Ends.{alive_if}
use Rattle.world_model.specs.Events.{Message, Exit, Guarded}
use Rattle.world_model.specs.Frames.{AgreeOn}
use Rattle.world_model.specs.Guards.{Alias, aliased, is_alias_of, timer_in, watch_name}
use Rattle.world_model.specs.Lines.{line}
use Rattle.world_model.specs.Mailboxes.{left_of, mailbox_in, selected_of, reads_to_pick}
use Rattle.world_model.specs.Names.{Pid, same_pid, Name, Ref}
use Rattle.world_model.specs.NewTables.{name_taken, new_reads, new_rule, new_line}
use Rattle.world_model.specs.ProcessLines.{sent, read_of_target, exited, holder_read, sent_to_holder, unregister_line, register_line, spawn_line, serves, serves_unless, unless_held, link_line, link_way, monitor_line, ref_of_turn, badarg, demonitor_reads, demonitor_line, alias_beside, send_line, unalias_line, timer_line, timer_reads, timer_ends, time_left, told_left, named_line, named_begins, item_reads, item_told, name_told, info_line, undefined}
use Rattle.world_model.specs.Signals.{put_if, watch_if, reply_ends}
use Rattle.world_model.specs.Tables.{TableOption, is_named}
use Rattle.world_model.specs.Terms.{atom, list_of, number, ok, truth, tuple, process_or, reference}
use Rattle.world_model.specs.declared.alias.AliasEnd.{AliasEnd}
use Rattle.world_model.specs.declared.process.ProcessItem.{ProcessItem}
use Rattle.world_model.specs.declared.process.ProcessItem.TheVariants.{RegisteredName, QueueLength}
use Rattle.world_model.specs.declared.rule.Rule.{Rule}
use Rattle.world_model.proofs.TableFrames.{on_table_framed, agree_parts}

-- ---- signals that are put

sent_framed : (v w : Contents) (p to : Pid) (m : Meaning) (b : Bool) → AgreeOn v w (read_of_target b p to) → sent b v p to m ≡ sent b w p to m
sent_framed v w p to m true agree = refl
sent_framed v w p to m false agree = λ i. put_if (agree.0.0 i) p to (Message m)

exited_framed : (v w : Contents) (p to : Pid) (r : Meaning) (b : Bool) → AgreeOn v w (read_of_target b p to) → exited b v p to r ≡ exited b w p to r
exited_framed v w p to r true agree = refl
exited_framed v w p to r false agree = λ i. put_if (agree.0.0 i) p to (Exit r)

holder_framed : (v w : Contents) (p : Pid) (o : Option Pid) (m : Meaning) → AgreeOn v w (holder_read p o) → sent_to_holder v p o m ≡ sent_to_holder w p o m
holder_framed v w p None m agree = refl
holder_framed v w p (Some to) m agree = sent_framed v w p to m (same_pid p to) agree

-- ---- mailboxes

found_framed : (v w : Contents) (p : Pid) (selects : Meaning → Bool) (o : Option Meaning) → selected_of selects (mailbox_in v p) ≡ o → AgreeOn v w (reads_to_pick p o) → selected_of selects (mailbox_in w p) ≡ o
found_framed v w p selects None is agree = sym (λ i. selected_of selects (left_of (agree.0.0 i) (agree.1.0.0 i))) ∙ is
found_framed v w p selects (Some m) is agree = agree.0.1 selects m is

-- contents that agree on what is read to take a message find the same
pub selected_framed : (v w : Contents) (p : Pid) (selects : Meaning → Bool) → AgreeOn v w (reads_to_pick p (selected_of selects (mailbox_in v p))) → selected_of selects (mailbox_in v p) ≡ selected_of selects (mailbox_in w p)
selected_framed v w p selects agree = sym (found_framed v w p selects (selected_of selects (mailbox_in v p)) refl agree)

-- ---- names

taken_framed : (v w : Contents) (name : Name) (b : Bool) → AgreeOn v w (if b then TableName name ∷ [] else []) → name_taken b (v (TableName name)) ≡ name_taken b (w (TableName name))
taken_framed v w name true agree = ap (name_taken true) agree.0.0
taken_framed v w name false agree = refl

new_framed : (v w : Contents) (name : Name) (options : Option (List TableOption)) → AgreeOn v w (new_reads name options) → new_rule options (v (TableName name)) ≡ new_rule options (w (TableName name))
new_framed v w name None agree = refl
new_framed v w name (Some os) agree = taken_framed v w name (is_named os) agree

new_reads_are : (p : Pid) (t : Ref) (name : Name) (options : Option (List TableOption)) (rule : Option Rule) → (new_line p t name options rule).reads ≡ new_reads name options
new_reads_are p t name None rule = refl
new_reads_are p t name (Some os) rule = refl

-- ---- aliases and timers

-- a reply ends a watch where it ends an alias
pub reply_framed : (v w : Contents) (ref : Ref) (b : Bool) → AgreeOn v w (watch_if b ref) → reply_ends b ref (v (Watch ref)) ≡ reply_ends b ref (w (Watch ref))
reply_framed v w ref true agree = ap (reply_ends true ref) agree.0.0
reply_framed v w ref false agree = refl

-- a line for each process that it may be an alias of
by_alias : (v w : Contents) (p : Pid) (ref : Ref) (m : Meaning) (o : Option Pid) → AgreeOn v w (send_line v p ref o m).reads → send_line v p ref o m ≡ send_line w p ref o m
by_alias v w p ref m None agree = refl
by_alias v w p ref m (Some to) agree = λ i. serves (Guard ref ∷ Alive to ∷ []) m (put_if (agree.1.0.0 i) p to (Guarded ref m))

alias_guard : (v w : Contents) (p : Pid) (ref : Ref) (m : Meaning) (o : Option Pid) → AgreeOn v w (send_line v p ref o m).reads → v (Guard ref) ≡ w (Guard ref)
alias_guard v w p ref m None agree = agree.0.0
alias_guard v w p ref m (Some to) agree = agree.0.0

send_framed : (v w : Contents) (p : Pid) (ref : Ref) (m : Meaning) (o : Option Pid) → aliased (v (Guard ref)) ≡ o → AgreeOn v w (send_line v p ref o m).reads → send_line v p ref o m ≡ send_line w p ref (aliased (w (Guard ref))) m
send_framed v w p ref m o is agree =
    let guard = alias_guard v w p ref m o agree in
    by_alias v w p ref m o agree ∙ ap (λ x. send_line w p ref x m) (sym is ∙ ap aliased guard)

left_framed : (v w : Contents) (timer : Option (Pid × ℤ)) → AgreeOn v w (alive_if (option_map (λ it. it.0) timer)) → time_left v timer ≡ time_left w timer
left_framed v w None agree = refl
left_framed v w (Some timer) agree = ap (λ lives. if lives then Some timer.1 else None) agree.0.0

-- ---- watches by name, and what is told of processes

-- whichever process has the name, it is read
named_framed : (v w : Contents) (p : Pid) (name : Name) (alias : Option AliasEnd) (o : Option Pid) → v (Holder name) ≡ o → v (Machine p) ≡ w (Machine p) → AgreeOn v w (named_line v p name (ref_of_turn p (v (Machine p))) alias o).reads
    → named_line v p name (ref_of_turn p (v (Machine p))) alias o ≡ named_line w p name (ref_of_turn p (w (Machine p))) alias (w (Holder name))
named_framed v w p name alias None is machine agree =
    (λ i. named_line w p name (ref_of_turn p (machine i)) alias None) ∙ ap (named_line w p name (ref_of_turn p (w (Machine p))) alias) (sym is ∙ agree.0.0)
named_framed v w p name alias (Some q) is machine agree =
    (λ i. serves (Holder name ∷ Alive q ∷ []) (reference (ref_of_turn p (machine i))) (named_begins p name (ref_of_turn p (machine i)) q (agree.1.0.0 i) (alias_beside (same_pid p q) alias)))
    ∙ ap (named_line w p name (ref_of_turn p (w (Machine p))) alias) (sym is ∙ agree.0.0)

item_framed : (v w : Contents) (q : Pid) (item : ProcessItem) → AgreeOn v w (item_reads q item) → item_told v q item ≡ item_told w q item
item_framed v w q RegisteredName agree = ap name_told agree.0.0
item_framed v w q QueueLength agree = λ i. tuple (atom (codes "message_queue_len") ∷ number (length (left_of (agree.0.0 i) (agree.1.0.0 i))) ∷ [])

info_framed : (v w : Contents) (p q : Pid) (item : ProcessItem) (b : Bool) → AgreeOn v w (info_line b v p q item).reads → info_line b v p q item ≡ info_line b w p q item
info_framed v w p q item true agree = ap (λ m. serves (item_reads p item) m []) (item_framed v w p item agree)
info_framed v w p q item false agree =
    λ i. serves (Alive q ∷ Front p q ∷ Tail p q ∷ item_reads q item) (if agree.0.0 i then item_framed v w q item agree.1.1.1 i else undefined) []

-- ---- the lines

-- whichever process holds the name, it is read
by_holder : (v w : Contents) (name : Name) (o : Option Pid) → AgreeOn v w (unregister_line name o).reads → v (Holder name) ≡ w (Holder name)
by_holder v w name None agree = agree.0.0
by_holder v w name (Some q) agree = agree.0.0

unregister_framed : (v w : Contents) (name : Name) → AgreeOn v w (unregister_line name (v (Holder name))).reads → unregister_line name (v (Holder name)) ≡ unregister_line name (w (Holder name))
unregister_framed v w name agree = ap (unregister_line name) (by_holder v w name (v (Holder name)) agree)

pub call_framed : (v w : Contents) (p : Pid) (call : Call) → v (Machine p) ≡ w (Machine p) → AgreeOn v w (line v p call).reads → line v p call ≡ line w p call
call_framed v w p (Spawn way None) machine agree = refl
call_framed v w p (Spawn way (Some origin)) machine agree = ap (spawn_line way origin p) machine
call_framed v w p (Send ToNobody m) machine agree = refl
call_framed v w p (Send (ToProcess q) m) machine agree = ap (serves (read_of_target (same_pid p q) p q) m) (sent_framed v w p q m (same_pid p q) agree)
call_framed v w p (Send (ToReference ref) m) machine agree = send_framed v w p ref m (aliased (v (Guard ref))) refl agree
call_framed v w p (Send (ToName name) m) machine agree =
    let holder = agree.0.0 in
    λ i. serves_unless (unless_held (holder i)) (Holder name ∷ holder_read p (holder i)) m ((holder_framed v w p (v (Holder name)) m agree.1 ∙ ap (λ o. sent_to_holder w p o m) holder) i)
call_framed v w p (Send (ToNode name) m) machine agree =
    let holder = agree.0.0 in
    λ i. serves (Holder name ∷ holder_read p (holder i)) m ((holder_framed v w p (v (Holder name)) m agree.1 ∙ ap (λ o. sent_to_holder w p o m) holder) i)
call_framed v w p (Send ToAnotherNode m) machine agree = refl
call_framed v w p (SendExit None reason) machine agree = refl
call_framed v w p (SendExit (Some q) reason) machine agree = ap (serves (read_of_target (same_pid p q) p q) ok) (exited_framed v w p q reason (same_pid p q) agree)
call_framed v w p (Link None) machine agree = refl
call_framed v w p (Link (Some q)) machine agree = λ i. link_line p q (link_way p q (agree.1.1.0.0 i) (agree.0.0 i) (agree.1.0.0 i))
call_framed v w p (Unlink None) machine agree = refl
call_framed v w p (Unlink (Some q)) machine agree = refl
call_framed v w p (Monitor is_process None alias) machine agree = refl
call_framed v w p (Monitor false (Some q) alias) machine agree = refl
call_framed v w p (Monitor true (Some q) None) machine agree = refl
call_framed v w p (Monitor true (Some q) (Some alias)) machine agree = λ i. monitor_line p q (ref_of_turn p (machine i)) (agree.0.0 i) (alias_beside (same_pid p q) alias)
call_framed v w p (MonitorName false name alias) machine agree = refl
call_framed v w p (MonitorName true name None) machine agree = refl
call_framed v w p (MonitorName true name (Some alias)) machine agree = named_framed v w p name alias (v (Holder name)) refl machine agree
call_framed v w p (Demonitor None flushes) machine agree = refl
call_framed v w p (Demonitor (Some ref) None) machine agree = λ i. badarg (demonitor_reads ref (agree.0.0 i))
call_framed v w p (Demonitor (Some ref) (Some false)) machine agree = λ i. demonitor_line p ref false (agree.0.0 i) None
call_framed v w p (Demonitor (Some ref) (Some true)) machine agree =
    let parts = agree_parts v w (alive_if (v (Watch ref))) (reads_to_pick p (selected_of (is_of_watch ref) (mailbox_in v p))) agree.1 in
    λ i. demonitor_line p ref true (agree.0.0 i) (selected_framed v w p (is_of_watch ref) parts.1 i)
call_framed v w p (Flag None) machine agree = refl
call_framed v w p (Flag (Some traps)) machine agree = λ i. serves (Trap p ∷ []) (truth (agree.0.0 i)) (TrapSet p traps ∷ [])
call_framed v w p (Register None None) machine agree = refl
call_framed v w p (Register None (Some q)) machine agree = refl
call_framed v w p (Register (Some name) None) machine agree = refl
call_framed v w p (Register (Some name) (Some q)) machine agree = λ i. register_line name q (agree.0.0 i) (agree.1.0.0 i) (agree.1.1.0.0 i)
call_framed v w p (Unregister None) machine agree = refl
call_framed v w p (Unregister (Some name)) machine agree = unregister_framed v w name agree
call_framed v w p (WhereIs None) machine agree = refl
call_framed v w p (WhereIs (Some name)) machine agree = λ i. serves (Holder name ∷ []) (process_or (codes "undefined") (agree.0.0 i)) []
call_framed v w p Registered machine agree = λ i. serves (Holders ∷ []) (list_of (map atom (keys (agree.0.0 i)))) []
call_framed v w p (IsAlive None) machine agree = refl
call_framed v w p (IsAlive (Some q)) machine agree = λ i. serves (Alive q ∷ Front p q ∷ Tail p q ∷ []) (truth (agree.0.0 i)) []
call_framed v w p (ProcessInfo None item) machine agree = refl
call_framed v w p (ProcessInfo (Some q) None) machine agree = refl
call_framed v w p (ProcessInfo (Some q) (Some item)) machine agree = info_framed v w p q item (same_pid p q) agree
call_framed v w p MakeRef machine agree = λ i. serves [] (reference (ref_of_turn p (machine i))) []
call_framed v w p (MakeAlias None) machine agree = refl
call_framed v w p (MakeAlias (Some end)) machine agree = λ i. serves [] (reference (ref_of_turn p (machine i))) (GuardSet (ref_of_turn p (machine i)) (Alias p end) ∷ [])
call_framed v w p (Unalias None) machine agree = refl
call_framed v w p (Unalias (Some ref)) machine agree = λ i. unalias_line ref (is_alias_of p (agree.0.0 i)) (watch_name (agree.0.0 i))
call_framed v w p (StartTimer is_named time None m) machine agree = refl
call_framed v w p (StartTimer is_named None (Some q) m) machine agree = refl
call_framed v w p (StartTimer is_named (Some time) (Some q) m) machine agree = λ i. timer_line p (machine i) is_named time q (agree.0.0 i) m
call_framed v w p (CancelTimer None) machine agree = refl
call_framed v w p (CancelTimer (Some ref)) machine agree =
    let left = left_framed v w (timer_in (v (Guard ref))) agree.1 ∙ ap (λ guard. time_left w (timer_in guard)) agree.0.0 in
    λ i. serves (timer_reads ref (timer_in (agree.0.0 i))) (told_left (left i)) (timer_ends ref (timer_in (agree.0.0 i)))
call_framed v w p (ReadTimer None) machine agree = refl
call_framed v w p (ReadTimer (Some ref)) machine agree =
    let left = left_framed v w (timer_in (v (Guard ref))) agree.1 ∙ ap (λ guard. time_left w (timer_in guard)) agree.0.0 in
    λ i. serves (timer_reads ref (timer_in (agree.0.0 i))) (told_left (left i)) []
call_framed v w p (New None options) machine agree = refl
call_framed v w p (New (Some name) options) machine agree =
    let rule = new_framed v w name options (subst (AgreeOn v w) (new_reads_are p (ref_of_turn p (v (Machine p))) name options (new_rule options (v (TableName name)))) agree) in
    λ i. new_line p (ref_of_turn p (machine i)) name options (rule i)
call_framed v w p (OnTable argument call) machine agree = on_table_framed v w p argument call agree
call_framed v w p Misfit machine agree = refl
