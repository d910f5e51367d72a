use Rattle.std.proofs.Common.{refl}
use Rattle.world_records.proofs.Placed.{inbox_taken, taken_as}
use Rattle.world_records.specs.declared.place.Place.TheVariants.{Inbox}
use Rattle.world_records.proofs.records.Records.take_inbox.Goals as goal

pub returns : goal.returns
returns c =
    let here = Inbox c.args.pid.now in
    taken_as c.take_from.result here here c.args.other.now c.args.self.now _ refl (λ took one. inbox_taken c.args.pid.now c.args.other.now c.args.self.now c.take_flags.new.self c.take_from.new.self c.in_ok-take_flags.ensures.ok took) c.take_from.ensures.ok
