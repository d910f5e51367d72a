use Rattle.std.proofs.Common.{◌∙◌, ap, subst}
use Rattle.term_core.specs.Term.{meaning_of}
use Rattle.world_model.specs.Changes.{after}
use Rattle.world_model.specs.Mailboxes.{picked, selected_of}
use Rattle.world_model.specs.Names.{same_term}
use Rattle.proc_mailboxes.proofs.Cells.{same_selected}
use Rattle.proc_mailboxes.specs.Mailboxes.{AreMailboxes}
use Rattle.proc_mailboxes.proofs.mailboxes.Mailboxes.remove.Goals as goal

pub returns-clause-picks : goal.returns-clause-picks
returns-clause-picks c = λ v there told.
    let p = c.args.pid.now in
    let m = meaning_of c.args.message.now in
    subst (λ o. AreMailboxes c.take.new.self (after (picked p o) v))
    (c.in_ok-_taken.ensures.taken ∙ ap (selected_of (same_term m)) (told p).left ∙ same_selected m _ there)
    (c.in_ok-_taken.ensures.picks v told)
