use Rattle.std.proofs.Common.{sym, subst}
use Rattle.std.specs.Prelude.{IfOk}
use Rattle.world_model.specs.Calls as calls
use Rattle.world_records.specs.declared.records.Records as declared
use Rattle.world_planned.specs.inside.PlannedCalls.{Plans}
use Rattle.world_process_calls.proofs.binding.unlink.Goals as goal

pub returns-in-Some : goal.returns-in-Some
returns-in-Some c = subst (λ o. IfOk c.unlink_process.result (λ reply. (records : declared.Records) → Plans c.args.caller.now (calls.Unlink o) records reply c.args.planned.now c.unlink_process.new.planned)) (sym c.in-Some.is) c.unlink_process.ensures
