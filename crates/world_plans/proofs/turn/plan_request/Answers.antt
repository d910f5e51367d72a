use Rattle.std.proofs.Common.{Some, ap, refl, sym, subst}
use Rattle.std.specs.Prelude.{IfOk}
use Rattle.core_eval.specs.Requests.{told_by}
use Rattle.core_eval.specs.declared.request.Request.{Request}
use Rattle.proc_machines.specs.Processes.{request_with, selects_in}
use Rattle.world_model.specs.Events.{Ended}
use Rattle.world_records.specs.Records.{processes_of}
use Rattle.world_plans.specs.inside.Turns.{IsPlannedTurn, PlansTurn}
use Rattle.world_footprints.specs.declared.deed.Deed.TheVariants as stored
use Rattle.world_plans.proofs.Turning.{end_plans, runaway_plans}
use Rattle.world_plans.proofs.turn.plan_request.Goals as goal

pub returns-in-Call : goal.returns-in-Call
returns-in-Call c =
    let p = c.args.pid.now in
    let records = c.args.records.now in
    subst (λ (r : Request). IfOk c.call.result (λ deed. PlansTurn p (request_with (selects_in (processes_of records) p) (told_by r)) records deed c.args.planned.now c.call.new.planned)) (sym c.in-Call.is) c.call.ensures

pub returns-in-Receive : goal.returns-in-Receive
returns-in-Receive c =
    let p = c.args.pid.now in
    let records = c.args.records.now in
    subst (λ (r : Request). IfOk c.receive.result (λ deed. PlansTurn p (request_with (selects_in (processes_of records) p) (told_by r)) records deed c.args.planned.now c.receive.new.planned)) (sym c.in-Receive.is) c.receive.ensures

pub returns-in_ok-copy-in-End : goal.returns-in_ok-copy-in-End
returns-in_ok-copy-in-End c = λ m v told names lives.
    let p = c.args.pid.now in
    subst (λ (r : Request). IsPlannedTurn v p (request_with (selects_in (processes_of c.args.records.now) p) (told_by r)) (Some (stored.Ended c.in_ok-copy-in-End.field-0)) c.args.planned.now c.end.new.planned) (sym c.in-End.is)
    (end_plans v p _ (stored.Ended c.in_ok-copy-in-End.field-0) _ _ (ap (λ x. Ended x) c.in_ok-copy-in-End.ensures) (c.in_ok-end-in-End.ensures m v told))

pub returns-in_ok-end-in-Runaway : goal.returns-in_ok-end-in-Runaway
returns-in_ok-end-in-Runaway c = λ m v told names lives.
    let p = c.args.pid.now in
    subst (λ (r : Request). IsPlannedTurn v p (request_with (selects_in (processes_of c.args.records.now) p) (told_by r)) (Some stored.RanAway) c.args.planned.now c.end-in-Runaway.new.planned) (sym c.in-Runaway.is)
    (runaway_plans v p _ stored.RanAway _ _ refl c.in_ok-reason-in-Runaway.ensures (c.in_ok-end-in-Runaway.ensures m v told))
