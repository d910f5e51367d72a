use Rattle.std.proofs.Common.{length}
use Rattle.tree_covers.proofs.MarkLaws.{IsCutSoFar}
use Rattle.tree_covers.proofs.mark.split_at_mark.Given as goal

-- no line so far is the mark
abbrev pub invariant-loop-line : goal.invariant-loop-line
invariant-loop-line l = IsCutSoFar l.text l.rest

abbrev pub decreases-loop-line : goal.decreases-loop-line
decreases-loop-line l = length l.rest
