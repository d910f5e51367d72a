use Rattle.std.proofs.Common.{Some, sym, subst}
use Rattle.std.specs.Prelude.{IfOk}
use Rattle.world_model.specs.Calls as calls
use Rattle.world_planned.specs.inside.PlannedCalls.{Plans}
use Rattle.world_process_calls.proofs.telling.process_info.Goals as goal

pub returns-in-Some-Some : goal.returns-in-Some-Some
returns-in-Some-Some c =
    subst (λ w. IfOk c.tell.result (λ reply. Plans c.args.caller.now (calls.ProcessInfo w c.args.item) c.args.records.now reply c.args.planned.now c.tell.new.planned)) (sym c.in-Some-Some.is-0)
    (subst (λ i. IfOk c.tell.result (λ reply. Plans c.args.caller.now (calls.ProcessInfo (Some c.in-Some-Some.whom) i) c.args.records.now reply c.args.planned.now c.tell.new.planned)) (sym c.in-Some-Some.is-1) c.tell.ensures)
