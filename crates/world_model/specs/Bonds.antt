-- What histories say of links, watches and names: each by the latest event about it.
use Rattle.std.specs.FinMap.{get}
use Rattle.std.specs.Prelude.{◌&&◌, if◌then◌else◌, ◌∷◌, ◌≡◌, List, Some, Option, Bool, true, not, None, is_some, option_and_then}
use Rattle.term_core.specs.Order.{order_of_lists}
use Rattle.term_core.specs.declared.step.Step.{Step}
use Rattle.term_core.specs.declared.step.Step.TheVariants.{Turn, Deliver}
use Rattle.world_model.specs.Calls.{Link, Call, Spawn, Linked, Unlink, call_of, Watched, Monitor, MonitorName, Demonitor, MakeAlias, Unalias, StartTimer, CancelTimer, Register, Unregister}
use Rattle.world_model.specs.Cells.{NameOf}
use Rattle.world_model.specs.Changes.{set_in_order, without_first}
use Rattle.world_model.specs.Events.{History, Deed, Served, Delivered, LinkExit, Event, Down, Guarded, Elapsed}
use Rattle.world_model.specs.Guards as guards
use Rattle.world_model.specs.Guards.{Alias, Timer, unwatched, unaliased, is_alias_of, ends_by_reply, timer_in, watch_name}
use Rattle.world_model.specs.Names.{Pid, same_pid, Ref, same_ref, Name, same_name}
use Rattle.world_model.specs.ProcessLines.{LinkWay, Stands, Pairs, PairsGone, Fails, alias_beside, link_way, named_guard, next_child, next_ref}
use Rattle.world_model.specs.Requests.{Program}
use Rattle.world_model.specs.Run.{IsRun}
use Rattle.world_model.specs.ProcessHistory.{ended_by, is_it}
use Rattle.world_model.specs.World.{linked, alive, traps, contents, watched, guarded, holder, holders}
use Rattle.world_model.specs.declared.alias.AliasEnd.{AliasEnd}

-- ---- links: a pair begins by `link/1` or `spawn_link/3`, and ends by `unlink/1` or when a signal of the link is delivered

abbrev pub joined : Pid → Pid → Pid → List Pid → List Pid
joined p q x there = if same_pid p x then set_in_order order_of_lists q there else there

abbrev pub parted : Pid → Pid → Pid → List Pid → List Pid
parted p q x there = if same_pid p x then without_first (same_pid q) there else there

-- of a pair each has the other
abbrev pub paired : Pid → Pid → Pid → List Pid → List Pid
paired p q x there = joined q p x (joined p q x there)

abbrev pub unpaired : Pid → Pid → Pid → List Pid → List Pid
unpaired p q x there = parted q p x (parted p q x there)

abbrev pub paired_by_way : LinkWay → Pid → Pid → Pid → List Pid → List Pid
paired_by_way Stands p q x there = there
paired_by_way Pairs p q x there = paired p q x there
paired_by_way PairsGone p q x there = paired p q x there
paired_by_way Fails p q x there = there

abbrev pub way_now : History → Pid → Pid → LinkWay
way_now h p q = link_way p q (linked h p) (alive h q) (traps h p)

abbrev pub linked_by_call : History → Pid → Call → Pid → List Pid → List Pid
linked_by_call h p (Spawn Linked (Some origin)) x there = paired p (next_child (contents h) p) x there
linked_by_call h p (Link (Some q)) x there = paired_by_way (way_now h p q) p q x there
linked_by_call h p (Unlink (Some q)) x there = unpaired p q x there
linked_by_call h p call x there = there

abbrev pub linked_in : History → Step → Deed → Pid → List Pid → List Pid
linked_in h (Turn p) (Served kind arguments answer) x there = linked_by_call h p (call_of kind arguments) x there
linked_in h (Deliver s r) (Delivered (LinkExit reason) fate) x there = unpaired s r x there
linked_in h step deed x there = there

abbrev pub LinkedIsTold : Type 0
LinkedIsTold = (h : History) (e : Event) (x : Pid) → linked (e ∷ h) x ≡ linked_in h e.step e.deed x (linked h x)

-- ---- watches: one begins by `monitor/2` or `spawn_monitor/3`, and ends by `demonitor` of its maker or when its message is delivered

-- the process that has a name, or where nobody has it the caller
abbrev pub named_target : Pid → Option Pid → Pid
named_target p None = p
named_target p (Some q) = q

abbrev pub watched_by_call : History → Pid → Call → Ref → Option Pid → Option Pid
watched_by_call h p (Spawn Watched (Some origin)) ref there = if same_ref (next_ref (contents h) p) ref then Some (next_child (contents h) p) else there
watched_by_call h p (Monitor true (Some q) (Some alias)) ref there = if same_ref (next_ref (contents h) p) ref then Some q else there
watched_by_call h p (MonitorName true name (Some alias)) ref there = if same_ref (next_ref (contents h) p) ref then Some (named_target p (holder h name)) else there
watched_by_call h p (Demonitor (Some other) (Some flushes)) ref there = if same_pid other.pid p && same_ref other ref then None else there
watched_by_call h p call ref there = there

abbrev pub watched_in : History → Step → Deed → Ref → Option Pid → Option Pid
watched_in h (Turn p) (Served kind arguments answer) ref there = watched_by_call h p (call_of kind arguments) ref there
watched_in h (Deliver s r) (Delivered (Down other reason) fate) ref there = if same_ref other ref then None else there
watched_in h (Deliver s r) (Delivered (Guarded other message) fate) ref there = if ends_by_reply r (guarded h other) && same_ref other ref then None else there
watched_in h step deed ref there = there

abbrev pub WatchedIsTold : Type 0
WatchedIsTold = (h : History) (e : Event) (ref : Ref) → watched (e ∷ h) ref ≡ watched_in h e.step e.deed ref (watched h ref)

-- ---- guards: an alias begins by `alias` or with a watch of another, and ends by `unalias/1`, or as it was made with its watch or by a message through it; the name of a watch is kept as long as that; a timer begins by `start_timer/3` or `send_after/3`, and ends by `cancel_timer/1` or when its message is delivered

abbrev pub set_if : Bool → guards.Guard → Option guards.Guard → Option guards.Guard
set_if is_it guard there = if is_it then Some guard else there

abbrev pub cleared_if : Bool → Option guards.Guard → Option guards.Guard
cleared_if is_it there = if is_it then None else there

-- an alias ends alone
abbrev pub unaliased_if : Bool → Option Name → Option guards.Guard → Option guards.Guard
unaliased_if is_it name there = if is_it then unaliased name else there

-- with a watch by name, of oneself where the caller has the name, and where nobody has it an alias as with that of another
abbrev pub named_alias : Pid → Option Pid → Option AliasEnd → Option AliasEnd
named_alias p None alias = alias
named_alias p (Some q) alias = alias_beside (same_pid p q) alias

abbrev pub unwatched_if : Bool → Option guards.Guard → Option guards.Guard
unwatched_if is_it there = if is_it then option_and_then unwatched there else there

abbrev pub guarded_by_call : History → Pid → Call → Ref → Option guards.Guard → Option guards.Guard
guarded_by_call h p (Monitor true (Some q) (Some (Some end))) ref there = set_if (not (same_pid p q) && same_ref (next_ref (contents h) p) ref) (Alias p end) there
guarded_by_call h p (MonitorName true name (Some alias)) ref there = set_if (same_ref (next_ref (contents h) p) ref) (named_guard p name (named_alias p (holder h name) alias)) there
guarded_by_call h p (MakeAlias (Some end)) ref there = set_if (same_ref (next_ref (contents h) p) ref) (Alias p end) there
guarded_by_call h p (StartTimer is_named (Some time) (Some to) message) ref there = set_if (same_ref (next_ref (contents h) p) ref) (Timer to time) there
guarded_by_call h p (Unalias (Some other)) ref there = unaliased_if (is_alias_of p (guarded h other) && same_ref other ref) (watch_name (guarded h other)) there
guarded_by_call h p (CancelTimer (Some other)) ref there = cleared_if (is_some (timer_in (guarded h other)) && same_ref other ref) there
guarded_by_call h p (Demonitor (Some other) (Some flushes)) ref there = unwatched_if (is_some (watched h other) && (same_pid other.pid p && same_ref other ref)) there
guarded_by_call h p call ref there = there

abbrev pub guarded_in : History → Step → Deed → Ref → Option guards.Guard → Option guards.Guard
guarded_in h (Turn p) (Served kind arguments answer) ref there = guarded_by_call h p (call_of kind arguments) ref there
guarded_in h (Deliver s r) (Delivered (Down other reason) fate) ref there = unwatched_if (same_ref other ref) there
guarded_in h (Deliver s r) (Delivered (Guarded other message) fate) ref there = cleared_if (ends_by_reply r (guarded h other) && same_ref other ref) there
guarded_in h (Deliver s r) (Delivered (Elapsed other message) fate) ref there = cleared_if (same_ref other ref) there
guarded_in h step deed ref there = there

abbrev pub GuardedIsTold : Type 0
GuardedIsTold = (h : History) (e : Event) (ref : Ref) → guarded (e ∷ h) ref ≡ guarded_in h e.step e.deed ref (guarded h ref)

-- ---- names: one has a holder by `register/2`, and none by `unregister/1` and by the end of its holder

abbrev pub vacated : Option Name → Name → Option Pid → Option Pid
vacated None name there = there
vacated (Some other) name there = if same_name other name then None else there

abbrev pub held_by_call : Call → Name → Option Pid → Option Pid
held_by_call (Register (Some other) (Some q)) name there = if same_name other name then Some q else there
held_by_call (Unregister (Some other)) name there = if same_name other name then None else there
held_by_call call name there = there

-- the name of the process that an event ends
abbrev pub name_of_ended : History → Option Pid → Option Name
name_of_ended h None = None
name_of_ended h (Some p) = contents h (NameOf p)

abbrev pub held_in_turn : Deed → Name → Option Pid → Option Pid
held_in_turn (Served kind arguments answer) name there = held_by_call (call_of kind arguments) name there
held_in_turn deed name there = there

abbrev pub held_in : Step → Deed → Name → Option Pid → Option Pid
held_in (Turn p) deed name there = held_in_turn deed name there
held_in (Deliver s r) deed name there = there

abbrev pub HolderIsTold : Type 0
HolderIsTold = (h : History) (e : Event) (name : Name) → holder (e ∷ h) name ≡ vacated (name_of_ended h (ended_by e)) name (held_in e.step e.deed name (holder h name))

-- so in every run: the end of its holder leaves it none
abbrev pub held_at_end : Option Pid → Option Pid → Option Pid
held_at_end None there = there
held_at_end (Some p) there = if is_it there p then None else there

abbrev pub HolderIsToldInRuns : Type 0
HolderIsToldInRuns = (a : Program) (h : History) (e : Event) (name : Name) → IsRun a (e ∷ h) → holder (e ∷ h) name ≡ held_at_end (ended_by e) (held_in e.step e.deed name (holder h name))

-- and who holds any are those who hold each
abbrev pub HoldersAreAll : Type 0
HoldersAreAll = (h : History) (name : Name) → get (holders h) name ≡ holder h name
