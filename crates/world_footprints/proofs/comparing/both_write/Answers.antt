use Rattle.std.proofs.Common.{sym}
use Rattle.world_footprints.proofs.Masks.{none_meet}
use Rattle.world_footprints.proofs.comparing.both_write.Goals as goal

pub returns-then-one-other-eq0 : goal.returns-then-one-other-eq0
returns-then-one-other-eq0 c = sym (none_meet c.args.one.now.write_mask c.args.other.now.write_mask _ _ c.args.one.now.writes_covered c.args.other.now.writes_covered c.if-one-other-eq0.true)
