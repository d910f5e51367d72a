use Rattle.std.proofs.Common.{◌∙◌, Some, ap, option_map, refl, sym}
use Rattle.term_core.specs.Term.{meaning_of}
use Rattle.world_model.specs.Calls as calls
use Rattle.world_planned.proofs.Calling.{exit_ends, serves}
use Rattle.world_process_calls.proofs.sending.exit_process.Goals as goal

pub returns-in-Some : goal.returns-in-Some
returns-in-Some c = λ m v told meant.
    exit_ends v c.args.caller.now c.args.to.now (meaning_of c.args.reason) c.in-Some.ending _ _ (sym (c.in_ok-ending.ensures m v told) ∙ ap (option_map meaning_of) c.in-Some.is) (c.in_ok-end_caller.ensures m v told)

pub returns : goal.returns
returns c = λ m v told meant.
    serves v c.args.caller.now (calls.SendExit (Some c.args.to.now) (meaning_of c.args.reason)) c.done.result _ _ (sym (c.in_ok-ending.ensures m v told) ∙ ap (option_map meaning_of) c.in_default.is) refl c.done.ensures (c.in_ok-send_signal.ensures m v told)
