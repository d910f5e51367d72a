use Rattle.std.proofs.Common.{rules}
use Rattle.term_core.specs.Term.{meaning_of}
use Rattle.proc_mailboxes.proofs.Cells.{mails_follow}
use Rattle.proc_mailboxes.proofs.mailboxes.Mailboxes.put.Goals as goal

pub returns-clause-mails : goal.returns-clause-mails
returns-clause-mails c = λ v told. mails_follow c.args.pid.now (meaning_of c.args.message) c.args.self.now _ v (search rules) told
