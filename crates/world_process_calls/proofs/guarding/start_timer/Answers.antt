use Rattle.std.proofs.Common.{sym, subst}
use Rattle.std.specs.Prelude.{IfOk}
use Rattle.proc_calls.specs.Arguments.{is_named}
use Rattle.term_core.specs.Term.{meaning_of}
use Rattle.world_model.specs.Calls as calls
use Rattle.world_planned.specs.inside.PlannedCalls.{Plans}
use Rattle.world_process_calls.proofs.guarding.start_timer.Goals as goal

pub returns-in-Some : goal.returns-in-Some
returns-in-Some c = subst (λ o. IfOk c.start_for.result (λ reply. Plans c.args.caller.now (calls.StartTimer (is_named c.args.naming) c.args.time o (meaning_of c.args.message)) c.args.records.now reply c.args.planned.now c.start_for.new.planned)) (sym c.in-Some.is) c.start_for.ensures
