use Rattle.world_records.proofs.records.Records.is_same_watched.Goals as goal

pub returns : goal.returns
returns c = λ e m v w old new. (c.is_same.ensures.watchers c.if-not-is_same.false w new.0, c.is_same.ensures.watches c.if-not-is_same.false w new.1, c.is_same-2.ensures.agrees e w new.2)
