use Rattle.std.proofs.Common.{arith}
use Rattle.core_tree.proofs.SameItems.{patterns_differ, patterns_done, pattern_differs, patterns_go_on}
use Rattle.core_tree.proofs.sameness.+patterns.Goals as goal

pub same_patterns-returns-then-len : goal.same_patterns-returns-then-len
same_patterns-returns-then-len t c =
    patterns_differ c.a.inside.0.items c.b.inside.0.items _ _ c.a.view_is c.b.view_is (λ e. omega arith)

pub same_patterns-returns-then-not-same_pattern : goal.same_patterns-returns-then-not-same_pattern
same_patterns-returns-then-not-same_pattern t c =
    pattern_differs c.a.inside.0.items c.b.inside.0.items _ _ c.a.view_is c.b.view_is c.loop-i.i _ _ _ (omega arith) c.loop-i.invariant.0 c.index.ensures c.index-in-loop-i.ensures c.loop-i.invariant.1 c.same_pattern.ensures c.if-not-same_pattern.true

pub same_patterns-loop-i-preserved : goal.same_patterns-loop-i-preserved
same_patterns-loop-i-preserved t c =
    (c.loop-i.invariant.0, patterns_go_on c.a.inside.0.items c.b.inside.0.items _ _ c.a.view_is c.b.view_is c.loop-i.i _ _ _ (omega arith) c.loop-i.invariant.0 c.index.ensures c.index-in-loop-i.ensures c.loop-i.invariant.1 c.same_pattern.ensures c.if-not-same_pattern.false)

pub same_patterns-returns : goal.same_patterns-returns
same_patterns-returns t c =
    patterns_done c.a.inside.0.items c.b.inside.0.items _ _ c.a.view_is c.b.view_is c.loop-i.i (omega arith) c.loop-i.invariant.0 c.loop-i.invariant.1
