-- Which signals an event puts: by sends, by exit signals, by links and watches of what is gone, by tables that pass, and by ends (Erlang reference manual, "Processes": "Sending Signals", "Links", "Monitors"; ets manual, `give_away/3` and `new/2`: heir).
use Rattle.std.specs.Prelude.{◌≡◌, ◌∷◌, ◌++◌, ◌&&◌, if◌then◌else◌, List, [], Bool, true, false, Option, Some, None}
use Rattle.term_core.specs.Meaning.{Meaning}
use Rattle.term_core.specs.declared.step.Step.{Step}
use Rattle.term_core.specs.declared.step.Step.TheVariants.{Turn, Deliver}
use Rattle.world_model.specs.Calls.{Call, Send, ToProcess, ToName, ToReference, ToNode, SendExit, Link, Monitor, MonitorName, StartTimer, OnTable, GiveAway, call_of}
use Rattle.world_model.specs.Cells.{Contents, Alive, Owned, Table, Links, Watchers}
use Rattle.world_model.specs.Changes.{after}
use Rattle.world_model.specs.Events.{History, Event, Deed, Served, EndedItself, Ended, RanAway, Delivered, Kills, Signal, Message, Exit, LinkExit, Down, Guarded, Elapsed}
use Rattle.world_model.specs.Guards.{aliased}
use Rattle.world_model.specs.TableAccess.{Found}
use Rattle.world_model.specs.Mail.{puts}
use Rattle.world_model.specs.Names.{Pid, Ref, same_pid}
use Rattle.world_model.specs.ProcessLines.{LinkWay, PairsGone, link_way, next_child, next_ref, noproc, timer_message}
use Rattle.world_model.specs.Signals.{goes_with, transfer_message}
use Rattle.world_model.specs.Steps.{runaway}
use Rattle.world_model.specs.Tables as tables
use Rattle.world_model.specs.Tables.{Heir, handle_of}
use Rattle.world_model.specs.World.{contents, alive, traps, linked, holder, guarded, found}

-- a signal of p for q, as a part of what s puts for r
abbrev pub on_way : Pid → Pid → Signal → Pid → Pid → List Signal
on_way p q x s r = if same_pid p s && same_pid q r then x ∷ [] else []

-- nothing is put for a process that does not live
abbrev pub if_lives : Bool → List Signal → List Signal
if_lives lives xs = if lives then xs else []

-- ---- calls

-- for another; to oneself a signal takes effect at once
abbrev pub put_for : History → Pid → Pid → Signal → Pid → Pid → List Signal
put_for h p to x s r = if same_pid p to then [] else if_lives (alive h to) (on_way p to x s r)

abbrev pub put_for_holder : History → Pid → Option Pid → Signal → Pid → Pid → List Signal
put_for_holder h p None x s r = []
put_for_holder h p (Some to) x s r = put_for h p to x s r

-- by an alias it is put for oneself too
abbrev pub put_for_alias : History → Pid → Option Pid → Signal → Pid → Pid → List Signal
put_for_alias h p None x s r = []
put_for_alias h p (Some to) x s r = if_lives (alive h to) (on_way p to x s r)

-- a process that is gone answers a new link, where the caller traps exits, and a new watch
abbrev pub put_by_link : LinkWay → Pid → Pid → Pid → Pid → List Signal
put_by_link PairsGone p q s r = on_way q p (LinkExit noproc) s r
put_by_link way p q s r = []

abbrev pub put_by_watch : Bool → Pid → Pid → Ref → Pid → Pid → List Signal
put_by_watch lives p q ref s r = if lives then [] else on_way q p (Down ref noproc) s r

-- of a name the process that has it, or where nobody has it the caller itself
abbrev pub put_by_named : History → Pid → Option Pid → Ref → Pid → Pid → List Signal
put_by_named h p None ref s r = put_by_watch false p p ref s r
put_by_named h p (Some q) ref s r = put_by_watch (alive h q) p q ref s r

-- the new owner of a table is informed
abbrev pub put_by_gift : Option Found → Pid → Meaning → Pid → Pid → List Signal
put_by_gift None to gift s r = []
put_by_gift (Some f) to gift s r = on_way f.table.owner to (Message (transfer_message (handle_of f.ref f.table) f.table.owner gift)) s r

abbrev pub put_by_call : History → Pid → Call → Pid → Pid → List Signal
put_by_call h p (Send (ToProcess to) message) s r = put_for h p to (Message message) s r
put_by_call h p (Send (ToName name) message) s r = put_for_holder h p (holder h name) (Message message) s r
put_by_call h p (Send (ToNode name) message) s r = put_for_holder h p (holder h name) (Message message) s r
put_by_call h p (Send (ToReference ref) message) s r = put_for_alias h p (aliased (guarded h ref)) (Guarded ref message) s r
put_by_call h p (SendExit (Some to) reason) s r = put_for h p to (Exit reason) s r
put_by_call h p (Link (Some q)) s r = put_by_link (link_way p q (linked h p) (alive h q) (traps h p)) p q s r
put_by_call h p (Monitor true (Some q) (Some alias)) s r = put_by_watch (alive h q) p q (next_ref (contents h) p) s r
put_by_call h p (MonitorName true name (Some alias)) s r = put_by_named h p (holder h name) (next_ref (contents h) p) s r
put_by_call h p (StartTimer is_named (Some time) (Some to) message) s r = if_lives (alive h to) (on_way (next_child (contents h) p) to (Elapsed (next_ref (contents h) p) (timer_message is_named (next_ref (contents h) p) message)) s r)
put_by_call h p (OnTable argument (GiveAway (Some to) gift)) s r = put_by_gift (found h argument) to gift s r
put_by_call h p call s r = []

-- ---- ends

-- whether a process lives when p is dead
abbrev pub outlives : Contents → Pid → Pid → Bool
outlives v p q = if same_pid p q then false else v (Alive q)

-- the heir of a table is informed that it passes
abbrev pub put_for_heir : Contents → Pid → Ref → tables.Table → Heir → Pid → Pid → List Signal
put_for_heir v p t table None s r = []
put_for_heir v p t table (Some heir) s r = if_lives (outlives v p heir.0) (on_way p heir.0 (Message (transfer_message (handle_of t table) p heir.1)) s r)

abbrev pub put_for_table : Contents → Pid → Ref → Option tables.Table → Pid → Pid → List Signal
put_for_table v p t None s r = []
put_for_table v p t (Some table) s r = put_for_heir v p t table table.heir s r

abbrev pub put_for_heirs : Contents → Pid → List Ref → Pid → Pid → List Signal
put_for_heirs v p [] s r = []
put_for_heirs v p (t ∷ ts) s r = put_for_table v p t (v (Table t)) s r ++ put_for_heirs v p ts s r

abbrev pub put_for_partners : Contents → Pid → Meaning → List Pid → Pid → Pid → List Signal
put_for_partners v p reason [] s r = []
put_for_partners v p reason (q ∷ qs) s r = if_lives (outlives v p q) (on_way p q (LinkExit reason) s r) ++ put_for_partners v p reason qs s r

abbrev pub put_for_watchers : Contents → Pid → Meaning → List Ref → Pid → Pid → List Signal
put_for_watchers v p reason [] s r = []
put_for_watchers v p reason (ref ∷ refs) s r = if_lives (outlives v p ref.pid) (on_way p ref.pid (Down ref reason) s r) ++ put_for_watchers v p reason refs s r

-- first for the heirs of its tables, in the order of their creation, then for its partners, then for its watchers
abbrev pub put_by_end : Contents → Pid → Meaning → Pid → Pid → List Signal
put_by_end v p reason s r = put_for_heirs v p (v (Owned p)) s r ++ (put_for_partners v p reason (v (Links p)) s r ++ put_for_watchers v p reason (v (Watchers p)) s r)

-- ---- events

-- a signal that kills takes its link with it first
abbrev pub put_in : History → Step → Deed → Pid → Pid → List Signal
put_in h (Turn p) (Served kind arguments answer) s r = put_by_call h p (call_of kind arguments) s r
put_in h (Turn p) (EndedItself kind arguments reason) s r = put_by_end (contents h) p reason s r
put_in h (Turn p) (Ended reason) s r = put_by_end (contents h) p reason s r
put_in h (Turn p) RanAway s r = put_by_end (contents h) p runaway s r
put_in h (Deliver t u) (Delivered signal (Kills reason)) s r = put_by_end (after (goes_with (contents h) t u signal) (contents h)) u reason s r
put_in h step deed s r = []

abbrev pub PutsAreTold : Type 0
PutsAreTold = (h : History) (e : Event) (s r : Pid) → puts h e s r ≡ put_in h e.step e.deed s r
