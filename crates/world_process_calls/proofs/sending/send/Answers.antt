use Rattle.std.proofs.Common.{sym, subst}
use Rattle.std.specs.Prelude.{IfOk}
use Rattle.proc_calls.specs.Arguments.{destination_in}
use Rattle.term_core.specs.Term.{meaning_of}
use Rattle.world_model.specs.Calls as calls
use Rattle.world_planned.specs.inside.PlannedCalls.{Plans}
use Rattle.world_process_calls.proofs.sending.send.Goals as goal

pub returns-in-ToProcess : goal.returns-in-ToProcess
returns-in-ToProcess c = subst (λ d. IfOk c.send_to_process.result (λ reply. Plans c.args.caller.now (calls.Send (destination_in d) (meaning_of c.args.message)) c.args.records.now reply c.args.planned.now c.send_to_process.new.planned)) (sym c.in-ToProcess.is) c.send_to_process.ensures

pub returns-in-ToReference : goal.returns-in-ToReference
returns-in-ToReference c = subst (λ d. IfOk c.send_to_reference.result (λ reply. Plans c.args.caller.now (calls.Send (destination_in d) (meaning_of c.args.message)) c.args.records.now reply c.args.planned.now c.send_to_reference.new.planned)) (sym c.in-ToReference.is) c.send_to_reference.ensures

pub returns-in-ToName : goal.returns-in-ToName
returns-in-ToName c = subst (λ d. IfOk c.send_to_name.result (λ reply. Plans c.args.caller.now (calls.Send (destination_in d) (meaning_of c.args.message)) c.args.records.now reply c.args.planned.now c.send_to_name.new.planned)) (sym c.in-ToName.is) c.send_to_name.ensures

pub returns-in-ToNode : goal.returns-in-ToNode
returns-in-ToNode c = subst (λ d. IfOk c.send_to_node.result (λ reply. Plans c.args.caller.now (calls.Send (destination_in d) (meaning_of c.args.message)) c.args.records.now reply c.args.planned.now c.send_to_node.new.planned)) (sym c.in-ToNode.is) c.send_to_node.ensures
