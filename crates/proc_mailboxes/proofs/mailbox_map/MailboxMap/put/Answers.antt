use Rattle.std.proofs.Common.{◌++◌, ◌∷◌, [], Some, refl, rules}
use Rattle.term_core.specs.Term.{meaning_of}
use Rattle.proc_mailboxes.proofs.Kept.{changed_at, made_of, on_err, unchanged_at}
use Rattle.proc_mailboxes.proofs.mailbox_map.MailboxMap.put.Goals as goal

pub returns-in_err-put-clause-err : goal.returns-in_err-put-clause-err
returns-in_err-put-clause-err c = on_err _
    (unchanged_at c.self.inside.mailboxes.entries _ c.args.self.now c.args.pid.now c.in-Some.mailbox.now c.put.new.self c.self.view_is c.in-Some.ensures.value c.in_err-put.ensures.err (c.get_mut.follows.holds _).0)

pub returns-in-Some-clause-ok : goal.returns-in-Some-clause-ok
returns-in-Some-clause-ok c =
    changed_at (λ messages. messages ++ meaning_of c.args.message ∷ []) c.self.inside.mailboxes.entries _ c.args.self.now c.args.pid.now c.args.pid.now (Some c.put.new.self) c.self.view_is refl
    ((c.get_mut.follows.holds _).3 (search rules)).0
    (made_of (λ messages. messages ++ meaning_of c.args.message ∷ []) c.self.inside.mailboxes.entries c.args.self.now c.args.pid.now c.in-Some.mailbox.now c.put.new.self c.self.view_is c.in-Some.ensures.value c.in_ok-put.ensures.ok)
