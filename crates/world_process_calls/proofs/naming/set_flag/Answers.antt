use Rattle.std.proofs.Common.{option_map, sym, subst}
use Rattle.std.specs.Prelude.{IfOk}
use Rattle.proc_calls.specs.Arguments.{traps}
use Rattle.world_model.specs.Calls as calls
use Rattle.world_planned.specs.inside.PlannedCalls.{Plans}
use Rattle.world_process_calls.proofs.naming.set_flag.Goals as goal

pub returns-in-Some : goal.returns-in-Some
returns-in-Some c = subst (λ o. IfOk c.set_trap.result (λ reply. Plans c.args.caller.now (calls.Flag (option_map traps o)) c.args.records.now reply c.args.planned.now c.set_trap.new.planned)) (sym c.in-Some.is) c.set_trap.ensures
