use Rattle.std.proofs.Common.{option_map, sym, subst}
use Rattle.std.specs.Prelude.{IfOk}
use Rattle.proc_calls.specs.Arguments.{flushes}
use Rattle.world_model.specs.Names.{ref_of}
use Rattle.world_model.specs.Calls as calls
use Rattle.world_planned.specs.inside.PlannedCalls.{Plans}
use Rattle.world_process_calls.proofs.binding.demonitor.Goals as goal

pub returns-in-Some : goal.returns-in-Some
returns-in-Some c = subst (λ o. IfOk c.unwatch.result (λ reply. Plans c.args.caller.now (calls.Demonitor (option_map ref_of o) (option_map flushes c.args.flushing)) c.args.records.now reply c.args.planned.now c.unwatch.new.planned)) (sym c.in-Some.is) c.unwatch.ensures
