use Rattle.std.proofs.Common.{sym}
use Rattle.world_footprints.proofs.Masks.{none_meet}
use Rattle.world_footprints.proofs.comparing.meets.Goals as goal

pub returns-then-writer-reader-eq0 : goal.returns-then-writer-reader-eq0
returns-then-writer-reader-eq0 c = sym (none_meet c.args.writer.now.write_mask c.args.reader.now.read_mask _ _ c.args.writer.now.writes_covered c.args.reader.now.reads_covered c.if-writer-reader-eq0.true)
