use Rattle.std.proofs.Common.{sym, subst}
use Rattle.std.specs.Prelude.{IfOk}
use Rattle.world_model.specs.Calls as calls
use Rattle.world_planned.specs.inside.PlannedCalls.{Plans}
use Rattle.world_process_calls.proofs.naming.is_alive.Goals as goal

pub returns-in-Some : goal.returns-in-Some
returns-in-Some c = subst (λ o. IfOk c.ask_life.result (λ reply. Plans c.args.caller.now (calls.IsAlive o) c.args.records.now reply c.args.planned.now c.ask_life.new.planned)) (sym c.in-Some.is) c.ask_life.ensures
