use Rattle.std.proofs.Common.{◌∙◌, is_some, sym, ap, subst, true≢false}
use Rattle.proc_machines.specs.Processes as processes
use Rattle.proc_machines.specs.Processes.{lives_in, selects_in}
use Rattle.proc_machines.specs.Receivers.{taken_by}
use Rattle.proc_mailboxes.specs.Mailboxes.{messages_in}
use Rattle.world_model.specs.Mailboxes.{selected_of}
use Rattle.world_plans.proofs.Doing.{firsts}
use Rattle.world_plans.proofs.enabled.has_message.Goals as goal

pub returns-in_default : goal.returns-in_default
returns-in_default c = λ m v told lives.
    absurd (true≢false (sym lives ∙ sym (ap (λ ps. lives_in ps c.args.pid.now) c.processes.ensures) ∙ sym (c.in_default.ensures.there m v (subst (λ ps. processes.Agrees m ps v) (sym c.processes.ensures) told.processes_are))))

pub returns : goal.returns
returns c = λ m v told lives.
    let p = c.args.pid.now in
    let takes = c.in-Some.ensures.selects ∙ ap (λ ps. selects_in ps p) c.processes.ensures in
    let messages = ap (λ b. messages_in b p) c.mailboxes.ensures ∙ (told.mailboxes_are p).left in
    c.is_some.ensures ∙ ap is_some c.in_ok-place.ensures.found ∙ firsts (taken_by c.in-Some.receiver) (messages_in c.mailboxes.result.now p) ∙ (λ i. is_some (selected_of (takes i) (messages i)))
