use Rattle.std.proofs.Common.{◌∙◌, sym, subst}
use Rattle.std.specs.Prelude.{Bool}
use Rattle.term_core.specs.Term.{meaning_of}
use Rattle.world_model.specs.ProcessLines.{read_of_target, sent}
use Rattle.world_planned.specs.inside.Planned.{Adds}
use Rattle.world_process_calls.proofs.sending.send_message.Goals as goal

pub returns-in_ok-mail : goal.returns-in_ok-mail
returns-in_ok-mail c = λ m v told.
    let p = c.args.caller.now in
    let q = c.args.to.now in
    subst (λ (b : Bool). Adds (read_of_target b p q) (sent b v p q (meaning_of c.args.message)) c.args.planned.now c.mail.new.planned) (sym c.if-are_one.true ∙ c.are_one.ensures) c.in_ok-mail.ensures

pub returns-in_ok-put : goal.returns-in_ok-put
returns-in_ok-put c = λ m v told.
    let p = c.args.caller.now in
    let q = c.args.to.now in
    subst (λ (b : Bool). Adds (read_of_target b p q) (sent b v p q (meaning_of c.args.message)) c.args.planned.now c.put.new.planned) (sym c.if-are_one.false ∙ c.are_one.ensures) (c.in_ok-put.ensures m v told)
