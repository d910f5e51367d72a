-- What calls of processes result in, by the values that they read.
use Rattle.std.proofs.Common.{◌≡◌, ◌∙◌, ◌⊎◌, inl, inr, ℤ, Bool, true, false, List, [], ◌∷◌, ◌++◌, Option, Some, None, is_some, if◌then◌else◌, refl, sym, ap, true≢false}
use Rattle.std.specs.Prelude.{◌&&◌, Result, Ok, Err, IfOk, not, is_none}
use Rattle.term_core.specs.Meaning.{Meaning}
use Rattle.term_core.specs.Term.{meaning_of}
use Rattle.term_core.specs.declared.term.Term.{Term}
use Rattle.proc_links.specs.Links.{way_of}
use Rattle.proc_links.specs.declared.links.Linking.{Linking}
use Rattle.proc_links.specs.declared.links.Linking.TheVariants.{Stands, Pairs, PairsGone, Fails}
use Rattle.world_model.specs.Calls.{Call, CancelTimer, Demonitor, Link, MakeAlias, Monitor, ReadTimer, Register, Send, SendExit, Spawn, SpawnWay, StartTimer, ToName, ToReference, Unalias, Unregister, MonitorName, ProcessInfo, ToNode}
use Rattle.world_model.specs.Cells as cells
use Rattle.world_model.specs.Cells.{Cell, Contents}
use Rattle.world_model.specs.Changes.{Change, NameCleared, NameSet, MachineStarted, AliveCleared, GuardCleared, GuardSet, HolderSet, AliveSet, HolderCleared, changed, is_of_watch}
use Rattle.world_model.specs.Ends.{left_by, reads_of_end}
use Rattle.world_model.specs.Events as events
use Rattle.world_model.specs.Guards as guards
use Rattle.world_model.specs.Guards.{Alias, Timer, aliased, is_alias_of, timer_in, watch_name}
use Rattle.world_model.specs.Lines.{line}
use Rattle.world_model.specs.Mailboxes.{mailbox_in, selected_of}
use Rattle.world_model.specs.Names.{Name, Pid, Ref, same_pid}
use Rattle.world_model.specs.ProcessLines.{alias_begins, alias_beside, bound, child_told, demonitor_reads, flushed, gone_told, holder_read, is_undefined, link_changes, link_refusal, link_way, next_child, next_ref, read_of_target, reads_to_flush, register_refusal, send_line, sent, sent_to_holder, time_left, timer_ends, timer_message, timer_reads, told_left, unless_held, unregister_line, watch_begins, watch_ends, alias_goes, info_line, named_begins, named_line}
use Rattle.world_model.specs.Requests.{Origin}
use Rattle.world_model.specs.Signals.{put_if}
use Rattle.world_model.specs.Steps.{ends_itself, own_end, reads_if_ended, reads_of_call}
use Rattle.world_model.specs.Terms.{ok, reference, truth}
use Rattle.world_model.specs.declared.alias.AliasEnd.{AliasEnd}
use Rattle.world_model.specs.declared.process.ProcessItem.{ProcessItem}
use Rattle.world_planned.specs.inside.Planned.{Adds}
use Rattle.world_planned.specs.Replies.{refusal_in}
use Rattle.world_planned.specs.inside.PlannedCalls.{IsPlanned}
use Rattle.world_planned.specs.declared.planned.Planned.{Planned}
use Rattle.world_planned.specs.declared.reply.Refusal.{Refusal}
use Rattle.world_planned.specs.declared.reply.Refusal.TheVariants.{BadArgument, NoProcess}
use Rattle.world_planned.specs.declared.reply.Reply.TheVariants.{Served, Refused, Ends}
use Rattle.world_planned.proofs.Adding.{adds_as, adds_then, end_nil}

-- ---- lines

-- cells that are read, and then changes
adds_both : (rs : List Cell) (ks : List Change) (f g h : Planned) → Adds rs [] f g → Adds [] ks g h → Adds rs ks f h
adds_both rs ks f g h reads changes_ = adds_as (rs ++ []) rs ks ks f h (end_nil rs) refl (adds_then rs [] [] ks f g h reads changes_)

-- a call that does not end its caller reads what its line says
reads_on : (v : Contents) (p : Pid) (call : Call) → ends_itself v p call ≡ None → (line v p call).reads ≡ reads_of_call v p call
reads_on v p call on = sym (end_nil (line v p call).reads) ∙ ap (λ e. (line v p call).reads ++ reads_if_ended v p e) (sym on)

-- of a result that is known more narrowly
pub if_ok : {T E : Type 0} (r : Result T E) (P Q : T → Type 0) → ((x : T) → P x → Q x) → IfOk r P → IfOk r Q
if_ok (Ok x) P Q f h = f x h
if_ok (Err e) P Q f h = h

-- it is served, with what its line reads and changes
pub serves : (v : Contents) (p : Pid) (call : Call) (answer : Term) (f g : Planned) → ends_itself v p call ≡ None → (line v p call).refusal ≡ None → meaning_of answer ≡ (line v p call).answer
    → Adds (line v p call).reads (line v p call).changes f g → IsPlanned v p call (Served answer) f g
serves v p call answer f g on served answered adds = record {
  reply_is = record { goes_on = on; is_served = served; answers = answered };
  adds = adds_as (line v p call).reads (reads_of_call v p call) (line v p call).changes (line v p call).changes f g (reads_on v p call on) refl adds;
}

-- it is refused, with what its line reads
pub refuses : (v : Contents) (p : Pid) (call : Call) (refusal : Refusal) (f g : Planned) → ends_itself v p call ≡ None → (line v p call).refusal ≡ Some (refusal_in refusal)
    → Adds (line v p call).reads [] f g → IsPlanned v p call (Refused refusal) f g
refuses v p call refusal f g on refused adds = record {
  reply_is = record { goes_on = on; is_refused = refused };
  adds = adds_as (line v p call).reads (reads_of_call v p call) [] [] f g (reads_on v p call on) refl adds;
}

-- ---- exits that end their sender

own_of : (own traps : Bool) (p : Pid) (reason r : Meaning) → own_end own traps p reason ≡ Some r → own ≡ true
own_of true traps p reason r e = refl
own_of false traps p reason r e = absurd cc

pub exit_ends : (v : Contents) (p q : Pid) (reason : Meaning) (ending : Term) (f g : Planned) → ends_itself v p (SendExit (Some q) reason) ≡ Some (meaning_of ending)
    → Adds (cells.Trap p ∷ reads_of_end v p) (left_by (changed (AliveCleared p) v) p (meaning_of ending)) f g → IsPlanned v p (SendExit (Some q) reason) (Ends ending) f g
exit_ends v p q reason ending f g is adds =
    let own = own_of (same_pid p q) (v (cells.Trap p)) p reason (meaning_of ending) is in
    let left = left_by (changed (AliveCleared p) v) p (meaning_of ending) in
    record {
      reply_is = is;
      adds = adds_as (cells.Trap p ∷ reads_of_end v p) (reads_of_call v p (SendExit (Some q) reason)) left left f g (λ i. read_of_target (sym own i) p q ++ reads_if_ended v p (sym is i)) refl adds;
    }

-- ---- messages for names

pub named_refused : (v : Contents) (p : Pid) (name : Name) (message : Meaning) (f g : Planned) → None ≡ v (cells.Holder name) → Adds (cells.Holder name ∷ []) [] f g → IsPlanned v p (Send (ToName name) message) (Refused BadArgument) f g
named_refused v p name message f g held adds =
    let call = Send (ToName name) message in
    refuses v p call BadArgument f g refl (sym (ap unless_held held)) (adds_as (cells.Holder name ∷ []) (line v p call).reads [] [] f g (ap (λ h. cells.Holder name ∷ holder_read p h) held) refl adds)

pub named_serves : (v : Contents) (p to : Pid) (name : Name) (message : Meaning) (answer : Term) (f g : Planned) → Some to ≡ v (cells.Holder name) → meaning_of answer ≡ message
    → Adds (cells.Holder name ∷ read_of_target (same_pid p to) p to) (sent (same_pid p to) v p to message) f g → IsPlanned v p (Send (ToName name) message) (Served answer) f g
named_serves v p to name message answer f g held answered adds =
    let call = Send (ToName name) message in
    serves v p call answer f g refl (sym (ap unless_held held)) answered
    (adds_as (cells.Holder name ∷ read_of_target (same_pid p to) p to) (line v p call).reads (sent (same_pid p to) v p to message) (line v p call).changes f g (ap (λ h. cells.Holder name ∷ holder_read p h) held) (ap (λ h. sent_to_holder v p h message) held) adds)

-- ---- links

pub link_fails : (v : Contents) (p q : Pid) (linking : Linking) (f g : Planned) → linking ≡ Fails → way_of linking ≡ link_way p q (v (cells.Links p)) (v (cells.Alive q)) (v (cells.Trap p))
    → Adds (cells.Alive q ∷ cells.Trap p ∷ cells.Links p ∷ []) (link_changes p q (way_of linking)) f g → IsPlanned v p (Link (Some q)) (Refused NoProcess) f g
link_fails v p q linking f g is way adds =
    refuses v p (Link (Some q)) NoProcess f g refl (ap link_refusal (sym way) ∙ ap (λ l. link_refusal (way_of l)) is)
    (adds_as (line v p (Link (Some q))).reads (line v p (Link (Some q))).reads (link_changes p q (way_of linking)) [] f g refl (ap (λ l. link_changes p q (way_of l)) is) adds)

not_fails : (linking : Linking) → (linking ≡ Stands) ⊎ ((linking ≡ Pairs) ⊎ (linking ≡ PairsGone)) → link_refusal (way_of linking) ≡ None
not_fails linking (inl is) = ap (λ l. link_refusal (way_of l)) is
not_fails linking (inr (inl is)) = ap (λ l. link_refusal (way_of l)) is
not_fails linking (inr (inr is)) = ap (λ l. link_refusal (way_of l)) is

pub link_serves : (v : Contents) (p q : Pid) (linking : Linking) (answer : Term) (f g : Planned) → (linking ≡ Stands) ⊎ ((linking ≡ Pairs) ⊎ (linking ≡ PairsGone))
    → way_of linking ≡ link_way p q (v (cells.Links p)) (v (cells.Alive q)) (v (cells.Trap p)) → meaning_of answer ≡ ok
    → Adds (cells.Alive q ∷ cells.Trap p ∷ cells.Links p ∷ []) (link_changes p q (way_of linking)) f g → IsPlanned v p (Link (Some q)) (Served answer) f g
link_serves v p q linking answer f g is way answered adds =
    let l = line v p (Link (Some q)) in
    serves v p (Link (Some q)) answer f g refl (ap link_refusal (sym way) ∙ not_fails linking is) answered (adds_as l.reads l.reads (link_changes p q (way_of linking)) l.changes f g refl (ap (link_changes p q) way) adds)

-- ---- watches

-- a message to a name at the own node, which somebody has or nobody
pub nobody_serves : (v : Contents) (p : Pid) (name : Name) (message : Meaning) (answer : Term) (f g : Planned) → None ≡ v (cells.Holder name) → meaning_of answer ≡ message → Adds (cells.Holder name ∷ []) [] f g → IsPlanned v p (Send (ToNode name) message) (Served answer) f g
nobody_serves v p name message answer f g held answered adds =
    let call = Send (ToNode name) message in
    serves v p call answer f g refl refl answered
    (adds_as (cells.Holder name ∷ []) (line v p call).reads [] (line v p call).changes f g (ap (λ h. cells.Holder name ∷ holder_read p h) held) (ap (λ h. sent_to_holder v p h message) held) adds)

pub node_serves : (v : Contents) (p to : Pid) (name : Name) (message : Meaning) (answer : Term) (f g : Planned) → Some to ≡ v (cells.Holder name) → meaning_of answer ≡ message
    → Adds (cells.Holder name ∷ read_of_target (same_pid p to) p to) (sent (same_pid p to) v p to message) f g → IsPlanned v p (Send (ToNode name) message) (Served answer) f g
node_serves v p to name message answer f g held answered adds =
    let call = Send (ToNode name) message in
    serves v p call answer f g refl refl answered
    (adds_as (cells.Holder name ∷ read_of_target (same_pid p to) p to) (line v p call).reads (sent (same_pid p to) v p to message) (line v p call).changes f g (ap (λ h. cells.Holder name ∷ holder_read p h) held) (ap (λ h. sent_to_holder v p h message) held) adds)

-- a watch of a name that somebody has, or nobody
pub holder_serves : (v : Contents) (p q : Pid) (name : Name) (ref : Ref) (alias : Option AliasEnd) (answer : Term) (f g : Planned) → Some q ≡ v (cells.Holder name) → ref ≡ next_ref v p → meaning_of answer ≡ reference ref
    → Adds (cells.Holder name ∷ cells.Alive q ∷ []) (named_begins p name ref q (v (cells.Alive q)) (alias_beside (same_pid p q) alias)) f g → IsPlanned v p (MonitorName true name (Some alias)) (Served answer) f g
holder_serves v p q name ref alias answer f g held is answered adds =
    let call = MonitorName true name (Some alias) in
    serves v p call answer f g refl (ap (λ h. (named_line v p name (next_ref v p) alias h).refusal) (sym held)) (answered ∙ ap reference is ∙ ap (λ h. (named_line v p name (next_ref v p) alias h).answer) held)
    (adds_as (cells.Holder name ∷ cells.Alive q ∷ []) (line v p call).reads (named_begins p name ref q (v (cells.Alive q)) (alias_beside (same_pid p q) alias)) (line v p call).changes f g
    (ap (λ h. (named_line v p name (next_ref v p) alias h).reads) held) (ap (λ r. named_begins p name r q (v (cells.Alive q)) (alias_beside (same_pid p q) alias)) is ∙ ap (λ h. (named_line v p name (next_ref v p) alias h).changes) held) adds)

pub no_holder_serves : (v : Contents) (p : Pid) (name : Name) (ref : Ref) (alias : Option AliasEnd) (answer : Term) (f g : Planned) → None ≡ v (cells.Holder name) → ref ≡ next_ref v p → meaning_of answer ≡ reference ref
    → Adds (cells.Holder name ∷ []) (named_begins p name ref p false alias) f g → IsPlanned v p (MonitorName true name (Some alias)) (Served answer) f g
no_holder_serves v p name ref alias answer f g held is answered adds =
    let call = MonitorName true name (Some alias) in
    serves v p call answer f g refl (ap (λ h. (named_line v p name (next_ref v p) alias h).refusal) (sym held)) (answered ∙ ap reference is ∙ ap (λ h. (named_line v p name (next_ref v p) alias h).answer) held)
    (adds_as (cells.Holder name ∷ []) (line v p call).reads (named_begins p name ref p false alias) (line v p call).changes f g
    (ap (λ h. (named_line v p name (next_ref v p) alias h).reads) held) (ap (λ r. named_begins p name r p false alias) is ∙ ap (λ h. (named_line v p name (next_ref v p) alias h).changes) held) adds)

pub watch_serves : (v : Contents) (p q : Pid) (ref : Ref) (lives : Bool) (alias : Option AliasEnd) (answer : Term) (f g : Planned) → ref ≡ next_ref v p → lives ≡ v (cells.Alive q) → meaning_of answer ≡ reference ref
    → Adds (cells.Alive q ∷ []) (watch_begins ref q ++ (alias_begins p ref (alias_beside (same_pid p q) alias) ++ gone_told lives p q ref)) f g → IsPlanned v p (Monitor true (Some q) (Some alias)) (Served answer) f g
watch_serves v p q ref lives alias answer f g is so answered adds =
    let l = line v p (Monitor true (Some q) (Some alias)) in
    let begun = alias_beside (same_pid p q) alias in
    serves v p (Monitor true (Some q) (Some alias)) answer f g refl refl (answered ∙ ap reference is)
    (adds_as l.reads l.reads (watch_begins ref q ++ (alias_begins p ref begun ++ gone_told lives p q ref)) l.changes f g refl (λ i. watch_begins (is i) q ++ (alias_begins p (is i) begun ++ gone_told (so i) p q (is i))) adds)

pub unwatch_serves : (v : Contents) (p : Pid) (ref : Ref) (flushes : Bool) (o : Option Pid) (answer : Term) (f g h k : Planned) → o ≡ v (cells.Watch ref) → meaning_of answer ≡ ok
    → Adds (demonitor_reads ref o) [] f g → Adds [] (watch_ends p ref o) g h
    → Adds (reads_to_flush flushes p (selected_of (is_of_watch ref) (mailbox_in v p))) (flushed flushes p (selected_of (is_of_watch ref) (mailbox_in v p))) h k
    → IsPlanned v p (Demonitor (Some ref) (Some flushes)) (Served answer) f k
unwatch_serves v p ref flushes o answer f g h k is answered reads ends flush =
    let l = line v p (Demonitor (Some ref) (Some flushes)) in
    let found = selected_of (is_of_watch ref) (mailbox_in v p) in
    serves v p (Demonitor (Some ref) (Some flushes)) answer f k refl refl answered
    (adds_as (demonitor_reads ref o ++ reads_to_flush flushes p found) l.reads (watch_ends p ref o ++ flushed flushes p found) l.changes f k
    (ap (λ t. demonitor_reads ref t ++ reads_to_flush flushes p found) is) (ap (λ t. watch_ends p ref t ++ flushed flushes p found) is)
    (adds_then (demonitor_reads ref o) (reads_to_flush flushes p found) (watch_ends p ref o) (flushed flushes p found) f h k (adds_both (demonitor_reads ref o) (watch_ends p ref o) f g h reads ends) flush))

pub unwatch_refuses : (v : Contents) (p : Pid) (ref : Ref) (o : Option Pid) (f g : Planned) → o ≡ v (cells.Watch ref)
    → Adds (demonitor_reads ref o) [] f g → IsPlanned v p (Demonitor (Some ref) None) (Refused BadArgument) f g
unwatch_refuses v p ref o f g is adds =
    let l = line v p (Demonitor (Some ref) None) in
    refuses v p (Demonitor (Some ref) None) BadArgument f g refl refl (adds_as (demonitor_reads ref o) l.reads [] [] f g (ap (demonitor_reads ref) is) refl adds)

-- ---- aliases

-- a message to a reference that is no alias
pub bare_serves : (v : Contents) (p : Pid) (ref : Ref) (message : Meaning) (answer : Term) (f g : Planned) → None ≡ aliased (v (cells.Guard ref)) → meaning_of answer ≡ message
    → Adds (cells.Guard ref ∷ []) [] f g → IsPlanned v p (Send (ToReference ref) message) (Served answer) f g
bare_serves v p ref message answer f g none answered adds =
    let call = Send (ToReference ref) message in
    serves v p call answer f g refl (ap (λ o. (send_line v p ref o message).refusal) (sym none)) (answered ∙ ap (λ o. (send_line v p ref o message).answer) none)
    (adds_as (cells.Guard ref ∷ []) (line v p call).reads [] (line v p call).changes f g (ap (λ o. (send_line v p ref o message).reads) none) (ap (λ o. (send_line v p ref o message).changes) none) adds)

-- and to one that is
pub aliased_serves : (v : Contents) (p q : Pid) (ref : Ref) (message : Meaning) (answer : Term) (f g : Planned) → Some q ≡ aliased (v (cells.Guard ref)) → meaning_of answer ≡ message
    → Adds (cells.Guard ref ∷ cells.Alive q ∷ []) (put_if (v (cells.Alive q)) p q (events.Guarded ref message)) f g → IsPlanned v p (Send (ToReference ref) message) (Served answer) f g
aliased_serves v p q ref message answer f g is answered adds =
    let call = Send (ToReference ref) message in
    serves v p call answer f g refl (ap (λ o. (send_line v p ref o message).refusal) (sym is)) (answered ∙ ap (λ o. (send_line v p ref o message).answer) is)
    (adds_as (cells.Guard ref ∷ cells.Alive q ∷ []) (line v p call).reads (put_if (v (cells.Alive q)) p q (events.Guarded ref message)) (line v p call).changes f g (ap (λ o. (send_line v p ref o message).reads) is) (ap (λ o. (send_line v p ref o message).changes) is) adds)

pub alias_serves : (v : Contents) (p : Pid) (ref : Ref) (end : AliasEnd) (answer : Term) (f g : Planned) → ref ≡ next_ref v p → meaning_of answer ≡ reference ref
    → Adds [] (GuardSet ref (Alias p end) ∷ []) f g → IsPlanned v p (MakeAlias (Some end)) (Served answer) f g
alias_serves v p ref end answer f g is answered adds =
    let l = line v p (MakeAlias (Some end)) in
    serves v p (MakeAlias (Some end)) answer f g refl refl (answered ∙ ap reference is) (adds_as [] [] (GuardSet ref (Alias p end) ∷ []) l.changes f g refl (ap (λ r. GuardSet r (Alias p end) ∷ []) is) adds)

pub unalias_serves : (v : Contents) (p : Pid) (ref : Ref) (stands : Bool) (name : Option Name) (answer : Term) (f g : Planned) → stands ≡ is_alias_of p (v (cells.Guard ref)) → name ≡ watch_name (v (cells.Guard ref)) → meaning_of answer ≡ truth stands
    → Adds (cells.Guard ref ∷ []) (if stands then alias_goes ref name else []) f g → IsPlanned v p (Unalias (Some ref)) (Served answer) f g
unalias_serves v p ref stands name answer f g is named answered adds =
    let l = line v p (Unalias (Some ref)) in
    serves v p (Unalias (Some ref)) answer f g refl refl (answered ∙ ap truth is) (adds_as (cells.Guard ref ∷ []) l.reads (if stands then alias_goes ref name else []) l.changes f g refl (λ i. if is i then alias_goes ref (named i) else []) adds)

-- ---- what is told of a process

info_unrefused : (b : Bool) (v : Contents) (p q : Pid) (item : ProcessItem) → (info_line b v p q item).refusal ≡ None
info_unrefused true v p q item = refl
info_unrefused false v p q item = refl

info_unchanged : (b : Bool) (v : Contents) (p q : Pid) (item : ProcessItem) → [] ≡ (info_line b v p q item).changes
info_unchanged true v p q item = refl
info_unchanged false v p q item = refl

pub info_serves : (v : Contents) (p q : Pid) (item : ProcessItem) (own : Bool) (answer : Term) (f g : Planned) → own ≡ same_pid p q → meaning_of answer ≡ (info_line own v p q item).answer → Adds (info_line own v p q item).reads [] f g
    → IsPlanned v p (ProcessInfo (Some q) (Some item)) (Served answer) f g
info_serves v p q item own answer f g is answered adds =
    let call = ProcessInfo (Some q) (Some item) in
    serves v p call answer f g refl (info_unrefused (same_pid p q) v p q item) (answered ∙ ap (λ b. (info_line b v p q item).answer) is)
    (adds_as (info_line own v p q item).reads (line v p call).reads [] (line v p call).changes f g (ap (λ b. (info_line b v p q item).reads) is) (info_unchanged (same_pid p q) v p q item) adds)

-- ---- timers

pub timer_serves : (v : Contents) (p child : Pid) (ref : Ref) (is_named : Bool) (time : ℤ) (q : Pid) (lives : Bool) (message : Meaning) (answer : Term) (f g : Planned) → child ≡ next_child v p → ref ≡ next_ref v p → lives ≡ v (cells.Alive q) → meaning_of answer ≡ reference ref
    → Adds (cells.Alive q ∷ []) (GuardSet ref (Timer q time) ∷ put_if lives child q (events.Elapsed ref (timer_message is_named ref message))) f g → IsPlanned v p (StartTimer is_named (Some time) (Some q) message) (Served answer) f g
timer_serves v p child ref is_named time q lives message answer f g is_child is_ref so answered adds =
    let l = line v p (StartTimer is_named (Some time) (Some q) message) in
    serves v p (StartTimer is_named (Some time) (Some q) message) answer f g refl refl (answered ∙ ap reference is_ref)
    (adds_as l.reads l.reads (GuardSet ref (Timer q time) ∷ put_if lives child q (events.Elapsed ref (timer_message is_named ref message))) l.changes f g refl (λ i. GuardSet (is_ref i) (Timer q time) ∷ put_if (so i) (is_child i) q (events.Elapsed (is_ref i) (timer_message is_named (is_ref i) message))) adds)

pub cancel_serves : (v : Contents) (p : Pid) (ref : Ref) (guard : Option guards.Guard) (left : Option ℤ) (answer : Term) (f g : Planned) → guard ≡ v (cells.Guard ref) → left ≡ time_left v (timer_in guard) → meaning_of answer ≡ told_left left
    → Adds (timer_reads ref (timer_in guard)) (timer_ends ref (timer_in guard)) f g → IsPlanned v p (CancelTimer (Some ref)) (Served answer) f g
cancel_serves v p ref guard left answer f g is so answered adds =
    let l = line v p (CancelTimer (Some ref)) in
    serves v p (CancelTimer (Some ref)) answer f g refl refl (answered ∙ ap told_left (so ∙ ap (λ it. time_left v (timer_in it)) is))
    (adds_as (timer_reads ref (timer_in guard)) l.reads (timer_ends ref (timer_in guard)) l.changes f g (ap (λ it. timer_reads ref (timer_in it)) is) (ap (λ it. timer_ends ref (timer_in it)) is) adds)

pub reading_serves : (v : Contents) (p : Pid) (ref : Ref) (guard : Option guards.Guard) (left : Option ℤ) (answer : Term) (f g : Planned) → guard ≡ v (cells.Guard ref) → left ≡ time_left v (timer_in guard) → meaning_of answer ≡ told_left left
    → Adds (timer_reads ref (timer_in guard)) [] f g → IsPlanned v p (ReadTimer (Some ref)) (Served answer) f g
reading_serves v p ref guard left answer f g is so answered adds =
    let l = line v p (ReadTimer (Some ref)) in
    serves v p (ReadTimer (Some ref)) answer f g refl refl (answered ∙ ap told_left (so ∙ ap (λ it. time_left v (timer_in it)) is))
    (adds_as (timer_reads ref (timer_in guard)) l.reads [] [] f g (ap (λ it. timer_reads ref (timer_in it)) is) refl adds)

-- ---- names

is_unless : (o : Option events.Refusal) → is_none o ≡ true → o ≡ None
is_unless None e = refl
is_unless (Some r) e = absurd (true≢false (sym e))

pub register_serves : (v : Contents) (p q : Pid) (name : Name) (answer : Term) (f g : Planned) → is_none (register_refusal name (v (cells.Alive q)) (v (cells.Holder name)) (v (cells.NameOf q))) ≡ true → meaning_of answer ≡ ok
    → Adds (cells.Alive q ∷ cells.Holder name ∷ cells.NameOf q ∷ []) (HolderSet name q ∷ NameSet q name ∷ []) f g → IsPlanned v p (Register (Some name) (Some q)) (Served answer) f g
register_serves v p q name answer f g can answered adds = serves v p (Register (Some name) (Some q)) answer f g refl (is_unless (line v p (Register (Some name) (Some q))).refusal can) answered adds

badarg_or : (b : Bool) → is_none (if b then None else Some events.Badarg) ≡ false → (if b then None else Some events.Badarg) ≡ Some events.Badarg
badarg_or true e = absurd (true≢false e)
badarg_or false e = refl

pub register_refuses : (v : Contents) (p q : Pid) (name : Name) (f g : Planned) → is_none (register_refusal name (v (cells.Alive q)) (v (cells.Holder name)) (v (cells.NameOf q))) ≡ false
    → Adds (cells.Alive q ∷ cells.Holder name ∷ cells.NameOf q ∷ []) [] f g → IsPlanned v p (Register (Some name) (Some q)) (Refused BadArgument) f g
register_refuses v p q name f g cannot adds =
    refuses v p (Register (Some name) (Some q)) BadArgument f g refl
    (badarg_or (v (cells.Alive q) && (not (is_undefined name) && (not (is_some (v (cells.Holder name))) && not (is_some (v (cells.NameOf q)))))) cannot) adds

pub unregister_refuses : (v : Contents) (p : Pid) (name : Name) (f g : Planned) → None ≡ v (cells.Holder name) → Adds (cells.Holder name ∷ []) [] f g → IsPlanned v p (Unregister (Some name)) (Refused BadArgument) f g
unregister_refuses v p name f g held adds =
    let l = line v p (Unregister (Some name)) in
    refuses v p (Unregister (Some name)) BadArgument f g refl (ap (λ h. (unregister_line name h).refusal) (sym held)) (adds_as (cells.Holder name ∷ []) l.reads [] [] f g (ap (λ h. (unregister_line name h).reads) held) refl adds)

pub unregister_serves : (v : Contents) (p q : Pid) (name : Name) (answer : Term) (f g : Planned) → Some q ≡ v (cells.Holder name) → meaning_of answer ≡ ok
    → Adds (cells.Holder name ∷ cells.Alive q ∷ []) (HolderCleared name ∷ NameCleared q ∷ []) f g → IsPlanned v p (Unregister (Some name)) (Served answer) f g
unregister_serves v p q name answer f g held answered adds =
    let l = line v p (Unregister (Some name)) in
    serves v p (Unregister (Some name)) answer f g refl (ap (λ h. (unregister_line name h).refusal) (sym held)) (answered ∙ ap (λ h. (unregister_line name h).answer) held)
    (adds_as (cells.Holder name ∷ cells.Alive q ∷ []) l.reads (HolderCleared name ∷ NameCleared q ∷ []) l.changes f g (ap (λ h. (unregister_line name h).reads) held) (ap (λ h. (unregister_line name h).changes) held) adds)

-- ---- processes that begin

pub spawn_serves : (v : Contents) (p child : Pid) (ref : Ref) (way : SpawnWay) (origin : Origin) (answer : Term) (f g : Planned) → child ≡ next_child v p → ref ≡ next_ref v p → meaning_of answer ≡ child_told way child ref
    → Adds [] (MachineStarted child origin ∷ AliveSet child ∷ bound way p child ref) f g → IsPlanned v p (Spawn way (Some origin)) (Served answer) f g
spawn_serves v p child ref way origin answer f g is_child is_ref answered adds =
    let l = line v p (Spawn way (Some origin)) in
    serves v p (Spawn way (Some origin)) answer f g refl refl (answered ∙ (λ i. child_told way (is_child i) (is_ref i)))
    (adds_as [] [] (MachineStarted child origin ∷ AliveSet child ∷ bound way p child ref) l.changes f g refl (λ i. MachineStarted (is_child i) origin ∷ AliveSet (is_child i) ∷ bound way p (is_child i) (is_ref i)) adds)
