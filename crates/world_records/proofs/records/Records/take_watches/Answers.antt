use Rattle.world_records.proofs.Placed.{watches_taken}
use Rattle.world_records.proofs.records.Records.take_watches.Goals as goal

pub returns : goal.returns
returns c = watches_taken c.args.other.now c.args.self.now c.in_ok-self.field-0 c.in_ok-self-2.field-0 c.in_ok-self.ensures c.in_ok-self-2.ensures
