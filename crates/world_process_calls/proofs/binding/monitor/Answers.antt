use Rattle.std.proofs.Common.{sym, subst}
use Rattle.std.specs.Prelude.{IfOk}
use Rattle.proc_calls.specs.Arguments.{is_process}
use Rattle.world_model.specs.Calls as calls
use Rattle.world_planned.specs.inside.PlannedCalls.{Plans}
use Rattle.world_process_calls.proofs.binding.monitor.Goals as goal

pub returns-in-Some : goal.returns-in-Some
returns-in-Some c = subst (λ w. IfOk c.monitor_process.result (λ reply. Plans c.args.caller.now (calls.Monitor (is_process c.args.kind) w c.args.alias) c.args.records.now reply c.args.planned.now c.monitor_process.new.planned)) (sym c.in-Some.is) c.monitor_process.ensures
