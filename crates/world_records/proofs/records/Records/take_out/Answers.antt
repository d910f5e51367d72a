use Rattle.std.proofs.Common.{◌∷◌, [], refl}
use Rattle.term_core.specs.Term.{meaning_of}
use Rattle.world_model.specs.Changes.{MessageTaken}
use Rattle.world_records.proofs.Changing.{only_mailboxes}
use Rattle.world_records.proofs.records.Records.take_out.Goals as goal

pub returns : goal.returns
returns c = λ m v told can.
    only_mailboxes m c.args.self.now c.remove.new.self (MessageTaken c.args.pid.now (meaning_of c.args.message.now) ∷ []) v (refl, tt) (c.in_ok-remove.ensures.picks v can.0 told.mailboxes_are) told
