use Rattle.std.proofs.Common.{◌≡◌, ◌∙◌, sym, ap, Some, None, rules}
use Rattle.world_model.specs.Changes.{is_of_watch}
use Rattle.world_model.specs.Mailboxes.{selected_of}
use Rattle.proc_signals.specs.Mailbox.{first_place}
use Rattle.world_model.specs.Names.{ref_of}
use Rattle.proc_signals.proofs.Cells.{picked_follows}
use Rattle.proc_signals.proofs.Removing.{place_within, place_removed, none_removed}
use Rattle.proc_signals.proofs.mailbox.Mailbox.flush_down.Goals as goal

pub take_at-requires : goal.take_at-requires
take_at-requires c =
    let first : first_place (is_of_watch (ref_of c.args.reference.now)) c.args.self.now ≡ Some c.in-Some.place = search rules in
    place_within (is_of_watch (ref_of c.args.reference.now)) c.args.self.now _ first

pub returns-clause-flushes : goal.returns-clause-flushes
returns-clause-flushes c = λ v p told.
    let first : first_place (is_of_watch (ref_of c.args.reference.now)) c.args.self.now ≡ Some c.in-Some.place = search rules in
    picked_follows (is_of_watch (ref_of c.args.reference.now)) p c.args.self.now _ v _ (ap (selected_of (is_of_watch (ref_of c.args.reference.now))) told.left)
    (c.in_ok-take_at.ensures.rest ∙ sym (place_removed (is_of_watch (ref_of c.args.reference.now)) c.args.self.now _ first)) told

pub returns-in_default-clause-flushes : goal.returns-in_default-clause-flushes
returns-in_default-clause-flushes c = λ v p told.
    let none : first_place (is_of_watch (ref_of c.args.reference.now)) c.args.self.now ≡ None = search rules in
    picked_follows (is_of_watch (ref_of c.args.reference.now)) p c.args.self.now c.args.self.now v _ (ap (selected_of (is_of_watch (ref_of c.args.reference.now))) told.left) (sym (none_removed (is_of_watch (ref_of c.args.reference.now)) c.args.self.now none)) told
