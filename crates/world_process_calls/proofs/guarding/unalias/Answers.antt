use Rattle.std.proofs.Common.{option_map, sym, subst}
use Rattle.std.specs.Prelude.{IfOk}
use Rattle.world_model.specs.Calls as calls
use Rattle.world_model.specs.Names.{ref_of}
use Rattle.world_planned.specs.inside.PlannedCalls.{Plans}
use Rattle.world_process_calls.proofs.guarding.unalias.Goals as goal

pub returns-in-Some : goal.returns-in-Some
returns-in-Some c = subst (λ o. IfOk c.end_alias.result (λ reply. Plans c.args.caller.now (calls.Unalias (option_map ref_of o)) c.args.records.now reply c.args.planned.now c.end_alias.new.planned)) (sym c.in-Some.is) c.end_alias.ensures
