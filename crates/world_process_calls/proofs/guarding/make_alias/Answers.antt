use Rattle.std.proofs.Common.{sym, subst}
use Rattle.std.specs.Prelude.{IfOk}
use Rattle.world_model.specs.Calls as calls
use Rattle.world_planned.specs.inside.PlannedCalls.{Plans}
use Rattle.world_process_calls.proofs.guarding.make_alias.Goals as goal

pub returns-in-Some : goal.returns-in-Some
returns-in-Some c = subst (λ o. IfOk c.new_alias.result (λ reply. Plans c.args.caller.now (calls.MakeAlias o) c.args.records.now reply c.args.planned.now c.new_alias.new.planned)) (sym c.in-Some.is) c.new_alias.ensures
