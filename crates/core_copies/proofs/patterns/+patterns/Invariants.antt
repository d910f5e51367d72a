use Rattle.std.proofs.Common.{◌≡◌, take, map}
use Rattle.core_tree.specs.Tree.{pattern_of}
use Rattle.core_copies.proofs.patterns.+patterns.Given as goal

abbrev pub invariant-copy_patterns-loop-pattern : goal.invariant-copy_patterns-loop-pattern
invariant-copy_patterns-loop-pattern l = map pattern_of l.copied.items ≡ map pattern_of (take l.pattern-index l.pattern-items)
