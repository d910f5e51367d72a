use Rattle.std.proofs.Common.{sym, subst}
use Rattle.std.specs.Prelude.{IfOk}
use Rattle.term_core.specs.Term.{meaning_of}
use Rattle.world_model.specs.Calls as calls
use Rattle.world_planned.specs.inside.PlannedCalls.{Plans}
use Rattle.world_process_calls.proofs.sending.send_exit.Goals as goal

pub returns-in-Some : goal.returns-in-Some
returns-in-Some c = subst (λ o. IfOk c.exit_process.result (λ reply. Plans c.args.caller.now (calls.SendExit o (meaning_of c.args.reason)) c.args.records.now reply c.args.planned.now c.exit_process.new.planned)) (sym c.in-Some.is) c.exit_process.ensures
