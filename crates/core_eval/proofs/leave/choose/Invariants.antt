use Rattle.std.proofs.Common.{length}
use Rattle.core_eval.proofs.Choosing.{IsLeft}
use Rattle.core_eval.proofs.leave.choose.Given as goal

-- no clause before those that are left is taken
abbrev pub invariant-loop-clause : goal.invariant-loop-clause
invariant-loop-clause l = IsLeft l.fn.stack l.stack l.fn.clauses l.left l.fn.values

abbrev pub decreases-loop-clause : goal.decreases-loop-clause
decreases-loop-clause l = length l.left
