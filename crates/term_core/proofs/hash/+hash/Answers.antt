use Rattle.std.proofs.Common.{arith}
use Rattle.term_core.proofs.HashSteps.{part_fed, tuple_fed}
use Rattle.term_core.proofs.hash.+hash.Goals as goal

pub feed_parts-loop-i-preserved : goal.feed_parts-loop-i-preserved
feed_parts-loop-i-preserved g t c =
    part_fed g.H.Hasher.write c.parts.inside.items.items _ c.loop-i.i _ _ _ _ c.parts.view_is (omega arith) c.index.ensures c.loop-i.invariant c.feed_term.ensures

pub feed_term-returns-in-Tuple : goal.feed_term-returns-in-Tuple
feed_term-returns-in-Tuple g t c =
    tuple_fed g.H.Hasher.write c.args.term.now c.loop-rest.rest.now c.in-Tuple.parts _ c.args.state.now c.loop-rest.state _ _ c.in-Tuple.is c.deref.ensures c.loop-rest.invariant.0 c.write_u8-in-Tuple.ensures c.feed_parts.ensures
