use Rattle.std.proofs.Common.{◌++◌, ◌∷◌, [], Some, refl}
use Rattle.term_core.specs.Term.{meaning_of}
use Rattle.proc_mailboxes.proofs.Kept.{begun_of, changed_at}
use Rattle.proc_mailboxes.proofs.mailbox_map.MailboxMap.open.Goals as goal

pub returns-clause-ok : goal.returns-clause-ok
returns-clause-ok c =
    changed_at (λ messages. messages ++ meaning_of c.args.message ∷ []) c.self.inside.mailboxes.entries _ c.args.self.now _ c.args.pid.now (Some c.in_ok-mailbox.mailbox) c.self.view_is c.in_ok-copy.ensures c.in_ok-insert.ensures.updates.0
    (begun_of c.args.self.now c.args.pid.now [] c.in_ok-mailbox.mailbox (meaning_of c.args.message) c.requires refl c.in_ok-mailbox.ensures)
