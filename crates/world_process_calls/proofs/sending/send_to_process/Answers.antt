use Rattle.std.proofs.Common.{refl}
use Rattle.term_core.specs.Term.{meaning_of}
use Rattle.world_model.specs.Calls as calls
use Rattle.world_planned.proofs.Calling.{serves}
use Rattle.world_process_calls.proofs.sending.send_to_process.Goals as goal

pub returns : goal.returns
returns c = λ m v told meant.
    serves v c.args.caller.now (calls.Send (calls.ToProcess c.args.to.now) (meaning_of c.args.message)) c.in_ok-answer.answer _ _ refl refl c.in_ok-answer.ensures (c.in_ok-send_message.ensures m v told)
