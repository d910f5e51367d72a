use Rattle.std.proofs.Common.{◌∙◌, Some, None, ap, refl}
use Rattle.proc_mailboxes.specs.Mailboxes.{Mailboxes, messages_in, messages_of}
use Rattle.proc_mailboxes.proofs.Kept.{changed_at, made_of, takes_from}
use Rattle.proc_mailboxes.proofs.mailbox_map.MailboxMap.take_from.Goals as goal

pub returns-in_default : goal.returns-in_default
returns-in_default c =
    let p = c.args.pid.now in
    takes_from p c.args.other.now c.args.self.now _
    (changed_at (λ _. messages_in c.args.other.now p) c.self.inside.mailboxes.entries _ c.args.self.now p p None c.self.view_is refl c.remove.ensures.updates.0
    (ap messages_of c.in_default.ensures.value ∙ ap (λ (boxes : Mailboxes). messages_in boxes p) c.other.view_is))

pub returns : goal.returns
returns c =
    let p = c.args.pid.now in
    takes_from p c.args.other.now c.args.self.now _
    (changed_at (λ _. messages_in c.args.other.now p) c.self.inside.mailboxes.entries _ c.args.self.now _ p (Some c.in_ok-clone.field-0) c.self.view_is c.in_ok-copy.ensures c.in_ok-insert.ensures.updates.0
    (made_of (λ messages. messages) c.other.inside.mailboxes.entries c.args.other.now p c.in-Some.held.now c.in_ok-clone.field-0 c.other.view_is c.in-Some.ensures.value c.in_ok-clone.ensures.cases))
