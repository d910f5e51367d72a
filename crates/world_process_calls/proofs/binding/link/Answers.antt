use Rattle.std.proofs.Common.{sym, subst}
use Rattle.std.specs.Prelude.{IfOk}
use Rattle.world_model.specs.Calls as calls
use Rattle.world_planned.specs.inside.PlannedCalls.{Plans}
use Rattle.world_process_calls.proofs.binding.link.Goals as goal

pub returns-in-Some : goal.returns-in-Some
returns-in-Some c = subst (λ o. IfOk c.link_process.result (λ reply. Plans c.args.caller.now (calls.Link o) c.args.records.now reply c.args.planned.now c.link_process.new.planned)) (sym c.in-Some.is) c.link_process.ensures
