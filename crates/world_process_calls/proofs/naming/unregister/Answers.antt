use Rattle.std.proofs.Common.{sym, subst}
use Rattle.std.specs.Prelude.{IfOk}
use Rattle.world_model.specs.Calls as calls
use Rattle.world_model.specs.Names as names
use Rattle.world_planned.specs.inside.PlannedCalls.{Plans}
use Rattle.world_process_calls.proofs.naming.unregister.Goals as goal

pub returns-in-Some : goal.returns-in-Some
returns-in-Some c = subst (λ o. IfOk c.unregister_name.result (λ reply. (caller : names.Pid) → Plans caller (calls.Unregister o) c.args.records.now reply c.args.planned.now c.unregister_name.new.planned)) (sym c.in-Some.is) c.unregister_name.ensures
