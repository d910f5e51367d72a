use Rattle.std.proofs.Common.{Some, None, sym, subst}
use Rattle.std.specs.Prelude.{IfOk}
use Rattle.world_model.specs.Calls as calls
use Rattle.world_model.specs.Names as names
use Rattle.world_planned.specs.inside.PlannedCalls.{Plans}
use Rattle.world_planned.proofs.Calling.{if_ok}
use Rattle.world_process_calls.proofs.naming.register.Goals as goal

pub returns-in-Some-Some : goal.returns-in-Some-Some
returns-in-Some-Some c =
    subst (λ n. IfOk c.register_for.result (λ reply. (caller : names.Pid) → Plans caller (calls.Register n c.args.whom) c.args.records.now reply c.args.planned.now c.register_for.new.planned)) (sym c.in-Some-Some.is-0)
    (subst (λ w. IfOk c.register_for.result (λ reply. (caller : names.Pid) → Plans caller (calls.Register (Some c.in-Some-Some.name) w) c.args.records.now reply c.args.planned.now c.register_for.new.planned)) (sym c.in-Some-Some.is-1) c.register_for.ensures)

pub returns-in-Some-None : goal.returns-in-Some-None
returns-in-Some-None c =
    subst (λ n. IfOk c.register_nobody.result (λ reply. (caller : names.Pid) → Plans caller (calls.Register n c.args.whom) c.args.records.now reply c.args.planned.now c.register_nobody.new.planned)) (sym c.in-Some-None.is-0)
    (subst (λ w. IfOk c.register_nobody.result (λ reply. (caller : names.Pid) → Plans caller (calls.Register (Some c.in-Some-None.name) w) c.args.records.now reply c.args.planned.now c.register_nobody.new.planned)) (sym c.in-Some-None.is-1)
    (if_ok c.register_nobody.result _ _ (λ reply plans. plans c.args.records.now) c.register_nobody.ensures))

pub returns-in-None-Some : goal.returns-in-None-Some
returns-in-None-Some c =
    subst (λ n. IfOk c.register_nameless.result (λ reply. (caller : names.Pid) → Plans caller (calls.Register n c.args.whom) c.args.records.now reply c.args.planned.now c.register_nameless.new.planned)) (sym c.in-None-Some.is-0)
    (subst (λ w. IfOk c.register_nameless.result (λ reply. (caller : names.Pid) → Plans caller (calls.Register None w) c.args.records.now reply c.args.planned.now c.register_nameless.new.planned)) (sym c.in-None-Some.is-1)
    (if_ok c.register_nameless.result _ _ (λ reply plans. plans c.args.records.now) c.register_nameless.ensures))
