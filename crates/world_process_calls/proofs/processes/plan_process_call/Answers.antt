use Rattle.std.proofs.Common.{sym, subst}
use Rattle.std.specs.Prelude.{IfOk}
use Rattle.proc_calls.specs.Calls.{call_in}
use Rattle.world_planned.specs.inside.PlannedCalls.{Plans}
use Rattle.world_planned.proofs.Calling.{if_ok}
use Rattle.world_process_calls.proofs.processes.plan_process_call.Goals as goal

pub returns-in-Spawn : goal.returns-in-Spawn
returns-in-Spawn c = subst (λ x. IfOk c.spawn.result (λ reply. Plans c.args.caller.now (call_in x) c.args.records.now reply c.args.planned.now c.spawn.new.planned)) (sym c.in-Spawn.is) c.spawn.ensures

pub returns-in-Send : goal.returns-in-Send
returns-in-Send c = subst (λ x. IfOk c.send.result (λ reply. Plans c.args.caller.now (call_in x) c.args.records.now reply c.args.planned.now c.send.new.planned)) (sym c.in-Send.is) c.send.ensures

pub returns-in-SendExit : goal.returns-in-SendExit
returns-in-SendExit c = subst (λ x. IfOk c.send_exit.result (λ reply. Plans c.args.caller.now (call_in x) c.args.records.now reply c.args.planned.now c.send_exit.new.planned)) (sym c.in-SendExit.is) c.send_exit.ensures

pub returns-in-Link : goal.returns-in-Link
returns-in-Link c = subst (λ x. IfOk c.link.result (λ reply. Plans c.args.caller.now (call_in x) c.args.records.now reply c.args.planned.now c.link.new.planned)) (sym c.in-Link.is) c.link.ensures

pub returns-in-Unlink : goal.returns-in-Unlink
returns-in-Unlink c = subst (λ x. IfOk c.unlink.result (λ reply. Plans c.args.caller.now (call_in x) c.args.records.now reply c.args.planned.now c.unlink.new.planned)) (sym c.in-Unlink.is) (if_ok c.unlink.result _ _ (λ reply plans. plans c.args.records.now) c.unlink.ensures)

pub returns-in-Monitor : goal.returns-in-Monitor
returns-in-Monitor c = subst (λ x. IfOk c.monitor.result (λ reply. Plans c.args.caller.now (call_in x) c.args.records.now reply c.args.planned.now c.monitor.new.planned)) (sym c.in-Monitor.is) c.monitor.ensures

pub returns-in-Demonitor : goal.returns-in-Demonitor
returns-in-Demonitor c = subst (λ x. IfOk c.demonitor.result (λ reply. Plans c.args.caller.now (call_in x) c.args.records.now reply c.args.planned.now c.demonitor.new.planned)) (sym c.in-Demonitor.is) c.demonitor.ensures

pub returns-in-Flag : goal.returns-in-Flag
returns-in-Flag c = subst (λ x. IfOk c.set_flag.result (λ reply. Plans c.args.caller.now (call_in x) c.args.records.now reply c.args.planned.now c.set_flag.new.planned)) (sym c.in-Flag.is) c.set_flag.ensures

pub returns-in-Register : goal.returns-in-Register
returns-in-Register c = subst (λ x. IfOk c.register.result (λ reply. Plans c.args.caller.now (call_in x) c.args.records.now reply c.args.planned.now c.register.new.planned)) (sym c.in-Register.is) (if_ok c.register.result _ _ (λ reply plans. plans c.args.caller.now) c.register.ensures)

pub returns-in-Unregister : goal.returns-in-Unregister
returns-in-Unregister c = subst (λ x. IfOk c.unregister.result (λ reply. Plans c.args.caller.now (call_in x) c.args.records.now reply c.args.planned.now c.unregister.new.planned)) (sym c.in-Unregister.is) (if_ok c.unregister.result _ _ (λ reply plans. plans c.args.caller.now) c.unregister.ensures)

pub returns-in-WhereIs : goal.returns-in-WhereIs
returns-in-WhereIs c = subst (λ x. IfOk c.whereis.result (λ reply. Plans c.args.caller.now (call_in x) c.args.records.now reply c.args.planned.now c.whereis.new.planned)) (sym c.in-WhereIs.is) (if_ok c.whereis.result _ _ (λ reply plans. plans c.args.caller.now) c.whereis.ensures)

pub returns-in-IsAlive : goal.returns-in-IsAlive
returns-in-IsAlive c = subst (λ x. IfOk c.is_alive.result (λ reply. Plans c.args.caller.now (call_in x) c.args.records.now reply c.args.planned.now c.is_alive.new.planned)) (sym c.in-IsAlive.is) c.is_alive.ensures

pub returns-in-MakeRef : goal.returns-in-MakeRef
returns-in-MakeRef c = subst (λ x. IfOk c.make_ref.result (λ reply. Plans c.args.caller.now (call_in x) c.args.records.now reply c.args.planned.now c.make_ref.new.planned)) (sym c.in-MakeRef.is) c.make_ref.ensures

pub returns-in-MakeAlias : goal.returns-in-MakeAlias
returns-in-MakeAlias c = subst (λ x. IfOk c.make_alias.result (λ reply. Plans c.args.caller.now (call_in x) c.args.records.now reply c.args.planned.now c.make_alias.new.planned)) (sym c.in-MakeAlias.is) c.make_alias.ensures

pub returns-in-Unalias : goal.returns-in-Unalias
returns-in-Unalias c = subst (λ x. IfOk c.unalias.result (λ reply. Plans c.args.caller.now (call_in x) c.args.records.now reply c.args.planned.now c.unalias.new.planned)) (sym c.in-Unalias.is) c.unalias.ensures

pub returns-in-StartTimer : goal.returns-in-StartTimer
returns-in-StartTimer c = subst (λ x. IfOk c.start_timer.result (λ reply. Plans c.args.caller.now (call_in x) c.args.records.now reply c.args.planned.now c.start_timer.new.planned)) (sym c.in-StartTimer.is) c.start_timer.ensures

pub returns-in-CancelTimer : goal.returns-in-CancelTimer
returns-in-CancelTimer c = subst (λ x. IfOk c.cancel_timer.result (λ reply. Plans c.args.caller.now (call_in x) c.args.records.now reply c.args.planned.now c.cancel_timer.new.planned)) (sym c.in-CancelTimer.is) (if_ok c.cancel_timer.result _ _ (λ reply plans. plans c.args.caller.now) c.cancel_timer.ensures)

pub returns-in-ReadTimer : goal.returns-in-ReadTimer
returns-in-ReadTimer c = subst (λ x. IfOk c.read_timer.result (λ reply. Plans c.args.caller.now (call_in x) c.args.records.now reply c.args.planned.now c.read_timer.new.planned)) (sym c.in-ReadTimer.is) (if_ok c.read_timer.result _ _ (λ reply plans. plans c.args.caller.now) c.read_timer.ensures)

pub returns-in-MonitorName : goal.returns-in-MonitorName
returns-in-MonitorName c = subst (λ x. IfOk c.monitor_name.result (λ reply. Plans c.args.caller.now (call_in x) c.args.records.now reply c.args.planned.now c.monitor_name.new.planned)) (sym c.in-MonitorName.is) c.monitor_name.ensures

pub returns-in-Registered : goal.returns-in-Registered
returns-in-Registered c = subst (λ x. IfOk c.registered.result (λ reply. Plans c.args.caller.now (call_in x) c.args.records.now reply c.args.planned.now c.registered.new.planned)) (sym c.in-Registered.is) (if_ok c.registered.result _ _ (λ reply plans. plans c.args.caller.now) c.registered.ensures)

pub returns-in-ProcessInfo : goal.returns-in-ProcessInfo
returns-in-ProcessInfo c = subst (λ x. IfOk c.process_info.result (λ reply. Plans c.args.caller.now (call_in x) c.args.records.now reply c.args.planned.now c.process_info.new.planned)) (sym c.in-ProcessInfo.is) c.process_info.ensures
