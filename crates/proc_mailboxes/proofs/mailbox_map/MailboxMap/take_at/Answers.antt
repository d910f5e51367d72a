use Rattle.std.proofs.Common.{Some, refl, rules}
use Rattle.std.specs.List.{remove}
use Rattle.proc_mailboxes.proofs.Kept.{changed_at, made_of, on_err, unchanged_at}
use Rattle.proc_mailboxes.proofs.mailbox_map.MailboxMap.take_at.Goals as goal

pub returns-in_err-message-clause-err : goal.returns-in_err-message-clause-err
returns-in_err-message-clause-err c = on_err _
    (unchanged_at c.self.inside.mailboxes.entries _ c.args.self.now c.args.pid.now c.in-Some.mailbox.now c.take_at.new.self c.self.view_is c.in-Some.ensures.value c.in_err-message.ensures.err (c.get_mut.follows.holds _).0)

pub returns-clause-rest : goal.returns-clause-rest
returns-clause-rest c =
    changed_at (λ messages. remove messages c.args.place) c.self.inside.mailboxes.entries _ c.args.self.now c.args.pid.now c.args.pid.now (Some c.take_at.new.self) c.self.view_is refl
    ((c.get_mut.follows.holds _).3 (search rules)).0
    (made_of (λ messages. remove messages c.args.place) c.self.inside.mailboxes.entries c.args.self.now c.args.pid.now c.in-Some.mailbox.now c.take_at.new.self c.self.view_is c.in-Some.ensures.value c.in_ok-message.ensures.rest)
