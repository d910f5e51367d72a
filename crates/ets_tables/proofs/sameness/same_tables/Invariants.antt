use Rattle.std.proofs.Common.{length}
use Rattle.ets_tables.specs.inside.Alike.{AreSameTables}
use Rattle.ets_tables.proofs.sameness.same_tables.Given as goal

-- where what is left is the same, all is
abbrev pub invariant-loop-id : goal.invariant-loop-id
invariant-loop-id l = AreSameTables l.left l.right → AreSameTables l.fn.one.entries l.fn.other.entries

abbrev pub decreases-loop-id : goal.decreases-loop-id
decreases-loop-id l = length l.left
