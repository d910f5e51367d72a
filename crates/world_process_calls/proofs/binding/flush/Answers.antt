use Rattle.std.proofs.Common.{◌∙◌, Some, None, ap, option_map, sym}
use Rattle.world_model.specs.Names.{ref_of}
use Rattle.term_core.specs.Term.{meaning_of}
use Rattle.world_model.specs.Changes.{is_of_watch}
use Rattle.world_model.specs.Mailboxes.{mailbox_in, picked, reads_to_pick, selected_of}
use Rattle.world_planned.proofs.Adding.{adds_at, adds_then}
use Rattle.world_process_calls.proofs.binding.flush.Goals as goal

pub returns-in_default : goal.returns-in_default
returns-in_default c = λ m v told.
    let p = c.args.caller.now in
    adds_at (reads_to_pick p) (picked p) None (selected_of (is_of_watch (ref_of c.args.reference.now)) (mailbox_in v p)) _ _ (ap (option_map (λ message. meaning_of message.now)) (sym c.in_default.is) ∙ c.down.ensures m v told)
    (adds_then _ _ _ _ _ _ _ c.in_ok-read_process.ensures c.in_ok-read_process-2.ensures)

pub returns : goal.returns
returns c = λ m v told.
    let p = c.args.caller.now in
    adds_at (reads_to_pick p) (picked p) (Some (meaning_of c.in-Some.message.now)) (selected_of (is_of_watch (ref_of c.args.reference.now)) (mailbox_in v p)) _ _ (c.in-Some.ensures m v told)
    (adds_then _ _ _ _ _ _ _ c.in_ok-read_process.ensures c.in_ok-pick.ensures)
