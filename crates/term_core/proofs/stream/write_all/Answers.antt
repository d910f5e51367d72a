use Rattle.term_core.specs.inside.Writing.{owes_after, stays_sound}
use Rattle.term_core.proofs.stream.write_all.Goals as goal

pub loop-rest-preserved : goal.loop-rest-preserved
loop-rest-preserved g c =
    (stays_sound _ _ _ _ c.in-Ok.ensures.failed c.loop-rest.invariant.0 c.if-count-eq0.false, owes_after _ _ _ _ _ _ _ c.loop-rest.invariant.1 c.in-Ok.ensures.bytes c.split_at.ensures.back)
