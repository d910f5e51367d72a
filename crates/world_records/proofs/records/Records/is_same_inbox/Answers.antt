use Rattle.world_records.proofs.Placed.{agrees_too}
use Rattle.world_records.specs.declared.place.Place.TheVariants.{Inbox}
use Rattle.world_records.proofs.records.Records.is_same_inbox.Goals as goal

pub returns : goal.returns
returns c = λ e. agrees_too (Inbox c.args.pid.now) c.args.self.now c.args.other.now (c.is_same_flags.ensures.lives c.if-not-is_same_flags.false, c.is_same_flags.ensures.traps c.if-not-is_same_flags.false, c.is_same_at.ensures e)
