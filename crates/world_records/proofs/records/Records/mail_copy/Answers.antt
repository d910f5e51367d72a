use Rattle.std.proofs.Common.{◌∷◌, [], subst}
use Rattle.world_model.specs.Changes.{after, MessageAdded}
use Rattle.world_records.specs.Records.{Agrees}
use Rattle.world_records.proofs.records.Records.mail_copy.Goals as goal

pub returns : goal.returns
returns c = λ m v told can.
    subst (λ message. Agrees m c.mail.new.self (after (MessageAdded c.args.pid.now message ∷ []) v)) c.in_ok-message.ensures (c.in_ok-mail.ensures m v told)
