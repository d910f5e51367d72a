use Rattle.world_model.proofs.MailLaws.{mailbox_told, waiting_told}
use Rattle.world_model.proofs.Posting.{puts_told}
use Rattle.world_model.proofs.laws.processes.mail_is_told.Goals as goal

pub returns-clause-mailbox : goal.returns-clause-mailbox
returns-clause-mailbox c = mailbox_told

pub returns-clause-waiting : goal.returns-clause-waiting
returns-clause-waiting c = waiting_told

pub returns-clause-puts : goal.returns-clause-puts
returns-clause-puts c = puts_told
