use Rattle.std.proofs.Common.{sym, subst}
use Rattle.std.specs.Prelude.{IfOk}
use Rattle.proc_calls.specs.Requests.{IsReadAs}
use Rattle.world_model.specs.Calls.{call_of}
use Rattle.world_planned.specs.inside.PlannedCalls.{Plans}
use Rattle.world_plans.proofs.Turning.{if_ok}
use Rattle.world_plans.proofs.turn.serve.Goals as goal

pub returns-in-Asks : goal.returns-in-Asks
returns-in-Asks c =
    let call = call_of c.args.kind c.args.arguments.now in
    subst (λ x. IfOk c.plan_process_call.result (λ reply. Plans c.args.caller.now x c.args.records.now reply c.args.planned.now c.plan_process_call.new.planned)) (sym (subst (IsReadAs call) c.in-Asks.is c.in_ok-call.ensures)) c.plan_process_call.ensures

pub returns-in-Other : goal.returns-in-Other
returns-in-Other c =
    let call = call_of c.args.kind c.args.arguments.now in
    if_ok c.plan_table_call.result _ _ (λ reply plans. plans (subst (IsReadAs call) c.in-Other.is c.in_ok-call.ensures)) c.plan_table_call.ensures
