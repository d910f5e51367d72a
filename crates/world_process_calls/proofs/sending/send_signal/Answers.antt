use Rattle.std.proofs.Common.{◌∷◌, ◌∙◌, [], ap, refl, sym, subst}
use Rattle.std.specs.Prelude.{Bool}
use Rattle.term_core.specs.Term.{meaning_of}
use Rattle.world_model.specs.Changes.{MessageAdded}
use Rattle.world_model.specs.ProcessLines.{read_of_target, exited}
use Rattle.world_planned.specs.inside.Planned.{Adds}
use Rattle.world_planned.proofs.Adding.{adds_as}
use Rattle.world_process_calls.proofs.sending.send_signal.Goals as goal

pub returns-in_ok-mail : goal.returns-in_ok-mail
returns-in_ok-mail c = λ m v told.
    let p = c.args.caller.now in
    let q = c.args.to.now in
    subst (λ (b : Bool). Adds (read_of_target b p q) (exited b v p q (meaning_of c.args.reason)) c.args.planned.now c.mail.new.planned) (sym c.if-are_one.true ∙ c.are_one.ensures)
    (adds_as _ _ _ _ _ _ refl (ap (λ message. MessageAdded p message ∷ []) c.in_ok-message.ensures) c.in_ok-mail.ensures)

pub returns-in_ok-put : goal.returns-in_ok-put
returns-in_ok-put c = λ m v told.
    let p = c.args.caller.now in
    let q = c.args.to.now in
    subst (λ (b : Bool). Adds (read_of_target b p q) (exited b v p q (meaning_of c.args.reason)) c.args.planned.now c.put.new.planned) (sym c.if-are_one.false ∙ c.are_one.ensures) (c.in_ok-put.ensures m v told)
