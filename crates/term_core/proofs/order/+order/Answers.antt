use Rattle.std.proofs.Common.{arith, sym, ◌∙◌}
use Rattle.term_core.proofs.ItemsOrder.{differs, goes_on, tuples}
use Rattle.term_core.proofs.order.+order.Goals as goal

pub order_of-returns-in-Tuple-Tuple : goal.order_of-returns-in-Tuple-Tuple
order_of-returns-in-Tuple-Tuple t c =
    tuples c.args.a.now c.args.b.now _ _ c.in-Tuple-Tuple.xs c.in-Tuple-Tuple.ys _ _ _ c.in-Tuple-Tuple.is-0 c.in-Tuple-Tuple.is-1 c.deref.ensures c.deref-in-Tuple-Tuple.ensures c.loop-left.invariant.0 c.order_of_tuples.ensures

pub order_of_tuples-returns-then-is_ne : goal.order_of_tuples-returns-then-is_ne
order_of_tuples-returns-then-is_ne t c =
    differs c.a.inside.items.items c.b.inside.items.items _ _ c.loop-i.i _ _ _ c.a.view_is c.b.view_is c.loop-i.invariant.0 (omega arith) c.index.ensures c.index-in-loop-i.ensures c.loop-i.invariant.1 c.order_of-parts.ensures (sym c.is_ne.ensures ∙ c.if-is_ne.true)

pub order_of_tuples-loop-i-preserved : goal.order_of_tuples-loop-i-preserved
order_of_tuples-loop-i-preserved t c =
    (c.loop-i.invariant.0, goes_on c.a.inside.items.items c.b.inside.items.items _ _ c.loop-i.i _ _ _ c.a.view_is c.b.view_is c.loop-i.invariant.0 (omega arith) c.index.ensures c.index-in-loop-i.ensures c.loop-i.invariant.1 c.order_of-parts.ensures (sym c.is_ne.ensures ∙ c.if-is_ne.false))
