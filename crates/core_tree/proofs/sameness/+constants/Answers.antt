use Rattle.std.proofs.Common.{arith}
use Rattle.core_tree.proofs.SameItems.{values_differ, values_done, const_differs, values_go_on}
use Rattle.core_tree.proofs.sameness.+constants.Goals as goal

pub same_consts-returns-then-len : goal.same_consts-returns-then-len
same_consts-returns-then-len t c =
    values_differ c.a.inside.0.items c.b.inside.0.items _ _ c.a.view_is c.b.view_is (λ e. omega arith)

pub same_consts-returns-then-not-same_const : goal.same_consts-returns-then-not-same_const
same_consts-returns-then-not-same_const t c =
    const_differs c.a.inside.0.items c.b.inside.0.items _ _ c.a.view_is c.b.view_is c.loop-i.i _ _ _ (omega arith) c.loop-i.invariant.0 c.index.ensures c.index-in-loop-i.ensures c.loop-i.invariant.1 c.same_const.ensures c.if-not-same_const.true

pub same_consts-loop-i-preserved : goal.same_consts-loop-i-preserved
same_consts-loop-i-preserved t c =
    (c.loop-i.invariant.0, values_go_on c.a.inside.0.items c.b.inside.0.items _ _ c.a.view_is c.b.view_is c.loop-i.i _ _ _ (omega arith) c.loop-i.invariant.0 c.index.ensures c.index-in-loop-i.ensures c.loop-i.invariant.1 c.same_const.ensures c.if-not-same_const.false)

pub same_consts-returns : goal.same_consts-returns
same_consts-returns t c =
    values_done c.a.inside.0.items c.b.inside.0.items _ _ c.a.view_is c.b.view_is c.loop-i.i (omega arith) c.loop-i.invariant.0 c.loop-i.invariant.1
