use Rattle.std.proofs.Common.{sym, subst}
use Rattle.std.specs.Prelude.{IfOk}
use Rattle.proc_calls.specs.Arguments.{is_process}
use Rattle.proc_calls.specs.declared.argument.MonitorType.TheVariants.{Process}
use Rattle.world_model.specs.Calls as calls
use Rattle.world_planned.specs.inside.PlannedCalls.{Plans}
use Rattle.world_process_calls.proofs.binding.monitor_name.Goals as goal

pub returns-in-Process-Some : goal.returns-in-Process-Some
returns-in-Process-Some c =
    subst (λ k. IfOk c.watch_name.result (λ reply. Plans c.args.caller.now (calls.MonitorName (is_process k) c.args.name c.args.alias) c.args.records.now reply c.args.planned.now c.watch_name.new.planned)) (sym c.in-Process-Some.is-0)
    (subst (λ a. IfOk c.watch_name.result (λ reply. Plans c.args.caller.now (calls.MonitorName (is_process Process) c.args.name a) c.args.records.now reply c.args.planned.now c.watch_name.new.planned)) (sym c.in-Process-Some.is-1) c.watch_name.ensures)
