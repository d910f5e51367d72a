use Rattle.std.proofs.Common.{◌∙◌, ap, sym}
use Rattle.std.specs.Int.{bit_at}
use Rattle.world_footprints.specs.Footprints.{written_in}
use Rattle.world_footprints.specs.Views.{view_in}
use Rattle.world_footprints.proofs.Masks.{one_off}
use Rattle.world_footprints.proofs.meeting.writes_meet.Goals as goal

pub returns-then-writer-bit-eq0 : goal.returns-then-writer-bit-eq0
returns-then-writer-bit-eq0 c =
    sym (one_off c.args.writer.now.write_mask c.with_bit-bit.result (written_in c.args.writer.now) (view_in c.args.cell) c.args.writer.now.writes_covered
    (ap (bit_at c.with_bit-bit.result) (sym c.place_in_mask.ensures.value) ∙ c.with_bit-bit.ensures.set) c.if-writer-bit-eq0.true)
