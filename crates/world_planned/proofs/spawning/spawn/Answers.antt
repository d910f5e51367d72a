use Rattle.std.proofs.Common.{option_map, sym, subst}
use Rattle.std.specs.Prelude.{IfOk}
use Rattle.proc_calls.specs.Arguments.{origin_in, way_in}
use Rattle.world_model.specs.Calls as calls
use Rattle.world_planned.specs.inside.PlannedCalls.{Plans}
use Rattle.world_planned.proofs.spawning.spawn.Goals as goal

pub returns-in-Some : goal.returns-in-Some
returns-in-Some c = subst (λ o. IfOk c.begin.result (λ reply. Plans c.args.caller.now (calls.Spawn (way_in c.args.way) (option_map origin_in o)) c.args.records.now reply c.args.planned.now c.begin.new.planned)) (sym c.in-Some.is) c.begin.ensures
