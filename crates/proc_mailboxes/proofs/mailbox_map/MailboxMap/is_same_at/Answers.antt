use Rattle.std.proofs.Common.{◌∙◌, refl, sym}
use Rattle.proc_mailboxes.proofs.Alike.{messages_told}
use Rattle.proc_mailboxes.proofs.Kept.{made_of}
use Rattle.proc_mailboxes.proofs.mailbox_map.MailboxMap.is_same_at.Goals as goal

pub returns-in-Some-Some : goal.returns-in-Some-Some
returns-in-Some-Some c = λ e.
    let p = c.args.pid.now in
    let one = c.in-Some-Some.one.now in
    let another = c.in-Some-Some.another.now in
    sym (made_of (λ messages. messages) c.self.inside.mailboxes.entries c.args.self.now p one one c.self.view_is c.in-Some-Some.ensures.value refl)
    ∙ messages_told one another (sym c.eq.ensures ∙ e)
    ∙ made_of (λ messages. messages) c.other.inside.mailboxes.entries c.args.other.now p another another c.other.view_is c.in-Some-Some.ensures'.value refl
