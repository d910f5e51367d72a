use Rattle.std.proofs.Common.{◌∙◌, ap, refl, sym}
use Rattle.std.specs.Prelude.{option_copied}
use Rattle.term_core.specs.Term.{meaning_of}
use Rattle.world_planned.proofs.Adding.{adds_then}
use Rattle.world_planned.proofs.Calling.{nobody_serves, node_serves}
use Rattle.world_process_calls.proofs.sending.send_to_node.Goals as goal

pub returns-in_default : goal.returns-in_default
returns-in_default c = λ m v told meant. nobody_serves v c.args.caller.now c.args.name (meaning_of c.args.message) c.args.message _ _ (ap option_copied (sym c.in_default.is) ∙ c.holder.ensures m v told) refl c.in_ok-read_name.ensures

pub returns : goal.returns
returns c = λ m v told meant.
    node_serves v c.args.caller.now c.in-Some.receiver.now c.args.name (meaning_of c.args.message) c.in_ok-answer.answer _ _ (c.in-Some.ensures m v told) c.in_ok-answer.ensures
    (adds_then _ _ _ _ _ _ _ c.in_ok-read_name.ensures (c.in_ok-send_message.ensures m v told))
