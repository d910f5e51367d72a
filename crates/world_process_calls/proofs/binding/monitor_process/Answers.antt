use Rattle.std.proofs.Common.{Some, sym, subst}
use Rattle.std.specs.Prelude.{IfOk}
use Rattle.proc_calls.specs.Arguments.{is_process}
use Rattle.proc_calls.specs.declared.argument.MonitorType.TheVariants.{Process}
use Rattle.world_model.specs.Calls as calls
use Rattle.world_planned.specs.inside.PlannedCalls.{Plans}
use Rattle.world_planned.proofs.Calling.{if_ok}
use Rattle.world_process_calls.proofs.binding.monitor_process.Goals as goal

pub returns-in-Process-Some : goal.returns-in-Process-Some
returns-in-Process-Some c =
    subst (λ k. IfOk c.watch.result (λ reply. Plans c.args.caller.now (calls.Monitor (is_process k) (Some c.args.whom.now) c.args.alias) c.args.records.now reply c.args.planned.now c.watch.new.planned)) (sym c.in-Process-Some.is-0)
    (subst (λ a. IfOk c.watch.result (λ reply. Plans c.args.caller.now (calls.Monitor (is_process Process) (Some c.args.whom.now) a) c.args.records.now reply c.args.planned.now c.watch.new.planned)) (sym c.in-Process-Some.is-1) c.watch.ensures)

pub returns-in-Process-None : goal.returns-in-Process-None
returns-in-Process-None c =
    subst (λ k. IfOk c.refuse_watch.result (λ reply. Plans c.args.caller.now (calls.Monitor (is_process k) (Some c.args.whom.now) c.args.alias) c.args.records.now reply c.args.planned.now c.refuse_watch.new.planned)) (sym c.in-Process-None.is-0)
    (subst (λ a. IfOk c.refuse_watch.result (λ reply. Plans c.args.caller.now (calls.Monitor (is_process Process) (Some c.args.whom.now) a) c.args.records.now reply c.args.planned.now c.refuse_watch.new.planned)) (sym c.in-Process-None.is-1)
    (if_ok c.refuse_watch.result _ _ (λ reply plans. plans c.args.records.now) c.refuse_watch.ensures.options))

pub returns-in-Another-default : goal.returns-in-Another-default
returns-in-Another-default c =
    subst (λ k. IfOk c.refuse_watch-in-Another-default.result (λ reply. Plans c.args.caller.now (calls.Monitor (is_process k) (Some c.args.whom.now) c.args.alias) c.args.records.now reply c.args.planned.now c.refuse_watch-in-Another-default.new.planned)) (sym c.in-Another-default.is-0)
    (if_ok c.refuse_watch-in-Another-default.result _ _ (λ reply plans. plans c.args.records.now c.args.alias) c.refuse_watch-in-Another-default.ensures.kind)
