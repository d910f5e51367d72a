-- The calls line by line: why each is refused, and where it is not its answer and its changes; and the cells that it reads (Erlang manual, module `erlang`; `new/2` and the calls of tables module `ets`).
use Rattle.std.specs.FinMap.{keys}
use Rattle.std.specs.Prelude.{◌∷◌, None, [], Some, false, map, true, codes}
use Rattle.world_model.specs.Calls.{Link, New, Call, Spawn, Send, ToNobody, ToProcess, ToName, ToReference, ToNode, ToAnotherNode, SendExit, Unlink, Monitor, MonitorName, Demonitor, Flag, Register, Unregister, WhereIs, Registered, IsAlive, ProcessInfo, MakeRef, MakeAlias, Unalias, StartTimer, CancelTimer, ReadTimer, OnTable, Misfit}
use Rattle.world_model.specs.Cells.{Holders, Alive, Contents, Machine, Holder, Links, Trap, Watch, Guard, NameOf, Front, Tail, TableName}
use Rattle.world_model.specs.Changes.{TrapSet, GuardSet, is_of_watch}
use Rattle.world_model.specs.Events.{ByRule}
use Rattle.world_model.specs.Guards.{Alias, aliased, is_alias_of, timer_in, watch_name}
use Rattle.world_model.specs.TableRules.{on_table_line}
use Rattle.world_model.specs.Mailboxes.{mailbox_in, selected_of}
use Rattle.world_model.specs.Names.{Pid, same_pid}
use Rattle.world_model.specs.NewTables.{new_line, new_rule}
use Rattle.world_model.specs.ProcessLines.{CallLine, badarg, spawn_line, serves, read_of_target, sent, serves_unless, unless_held, holder_read, sent_to_holder, exited, link_line, link_way, monitor_line, named_line, info_line, alias_beside, ref_of_turn, demonitor_reads, demonitor_line, register_line, unregister_line, send_line, unalias_line, timer_line, timer_reads, timer_ends, time_left, told_left}
use Rattle.world_model.specs.Signals.{pair_goes}
use Rattle.world_model.specs.Terms.{atom, list_of, ok, truth, process_or, reference}
use Rattle.world_model.specs.declared.rule.Rule.TheVariants.{BadName}

-- a spawn needs a module, a function and a proper list of arguments; what is no exported function ends at once
abbrev pub line : Contents → Pid → Call → CallLine
-- spawn/3, spawn_link/3, spawn_monitor/3
line v p (Spawn way None) = badarg []
line v p (Spawn way (Some origin)) = spawn_line way origin p (v (Machine p))
-- '!'/2, send/2
line v p (Send ToNobody message) = badarg []
line v p (Send (ToProcess q) message) = serves (read_of_target (same_pid p q) p q) message (sent (same_pid p q) v p q message)
line v p (Send (ToReference ref) message) = send_line v p ref (aliased (v (Guard ref))) message
line v p (Send (ToName name) message) = serves_unless (unless_held (v (Holder name))) (Holder name ∷ holder_read p (v (Holder name))) message (sent_to_holder v p (v (Holder name)) message)
line v p (Send (ToNode name) message) = serves (Holder name ∷ holder_read p (v (Holder name))) message (sent_to_holder v p (v (Holder name)) message)
line v p (Send ToAnotherNode message) = serves [] message []
-- exit/2
line v p (SendExit None reason) = badarg []
line v p (SendExit (Some q) reason) = serves (read_of_target (same_pid p q) p q) ok (exited (same_pid p q) v p q reason)
-- link/1
line v p (Link None) = badarg []
line v p (Link (Some q)) = link_line p q (link_way p q (v (Links p)) (v (Alive q)) (v (Trap p)))
-- unlink/1
line v p (Unlink None) = badarg []
line v p (Unlink (Some q)) = serves (Alive q ∷ []) ok (pair_goes p q)
-- monitor/2, monitor/3
line v p (Monitor is_process None alias) = badarg []
line v p (Monitor false (Some q) alias) = badarg (Alive q ∷ [])
line v p (Monitor true (Some q) None) = badarg (Alive q ∷ [])
line v p (Monitor true (Some q) (Some alias)) = monitor_line p q (ref_of_turn p (v (Machine p))) (v (Alive q)) (alias_beside (same_pid p q) alias)
-- monitor/2, monitor/3 of a name
line v p (MonitorName false name alias) = badarg []
line v p (MonitorName true name None) = badarg []
line v p (MonitorName true name (Some alias)) = named_line v p name (ref_of_turn p (v (Machine p))) alias (v (Holder name))
-- demonitor/1, demonitor/2
line v p (Demonitor None flushes) = badarg []
line v p (Demonitor (Some ref) None) = badarg (demonitor_reads ref (v (Watch ref)))
line v p (Demonitor (Some ref) (Some flushes)) = demonitor_line p ref flushes (v (Watch ref)) (selected_of (is_of_watch ref) (mailbox_in v p))
-- process_flag/2
line v p (Flag None) = badarg []
line v p (Flag (Some traps)) = serves (Trap p ∷ []) (truth (v (Trap p))) (TrapSet p traps ∷ [])
-- register/2
line v p (Register None None) = badarg []
line v p (Register None (Some q)) = badarg (Alive q ∷ NameOf q ∷ [])
line v p (Register (Some name) None) = badarg (Holder name ∷ [])
line v p (Register (Some name) (Some q)) = register_line name q (v (Alive q)) (v (Holder name)) (v (NameOf q))
-- unregister/1
line v p (Unregister None) = badarg []
line v p (Unregister (Some name)) = unregister_line name (v (Holder name))
-- whereis/1
line v p (WhereIs None) = badarg []
line v p (WhereIs (Some name)) = serves (Holder name ∷ []) (process_or (codes "undefined") (v (Holder name))) []
-- registered/0
line v p Registered = serves (Holders ∷ []) (list_of (map atom (keys (v Holders)))) []
-- is_process_alive/1, which waits as said with its turn
line v p (IsAlive None) = badarg []
line v p (IsAlive (Some q)) = serves (Alive q ∷ Front p q ∷ Tail p q ∷ []) (truth (v (Alive q))) []
-- process_info/2, which waits as said with its turn
line v p (ProcessInfo None item) = badarg []
line v p (ProcessInfo (Some q) None) = badarg []
line v p (ProcessInfo (Some q) (Some item)) = info_line (same_pid p q) v p q item
-- make_ref/0
line v p MakeRef = serves [] (reference (ref_of_turn p (v (Machine p)))) []
-- alias/0, alias/1
line v p (MakeAlias None) = badarg []
line v p (MakeAlias (Some end)) = serves [] (reference (ref_of_turn p (v (Machine p)))) (GuardSet (ref_of_turn p (v (Machine p))) (Alias p end) ∷ [])
-- unalias/1
line v p (Unalias None) = badarg []
line v p (Unalias (Some ref)) = unalias_line ref (is_alias_of p (v (Guard ref))) (watch_name (v (Guard ref)))
-- start_timer/3, send_after/3
line v p (StartTimer is_named time None message) = badarg []
line v p (StartTimer is_named None (Some q) message) = badarg (Alive q ∷ [])
line v p (StartTimer is_named (Some time) (Some q) message) = timer_line p (v (Machine p)) is_named time q (v (Alive q)) message
-- cancel_timer/1
line v p (CancelTimer None) = badarg []
line v p (CancelTimer (Some ref)) = serves (timer_reads ref (timer_in (v (Guard ref)))) (told_left (time_left v (timer_in (v (Guard ref))))) (timer_ends ref (timer_in (v (Guard ref))))
-- read_timer/1
line v p (ReadTimer None) = badarg []
line v p (ReadTimer (Some ref)) = serves (timer_reads ref (timer_in (v (Guard ref)))) (told_left (time_left v (timer_in (v (Guard ref))))) []
-- ets: new/2
line v p (New None options) = serves_unless (Some (ByRule BadName None)) [] ok []
line v p (New (Some name) options) = new_line p (ref_of_turn p (v (Machine p))) name options (new_rule options (v (TableName name)))
-- ets: the calls with a table argument
line v p (OnTable argument call) = on_table_line v p argument call
line v p Misfit = badarg []
