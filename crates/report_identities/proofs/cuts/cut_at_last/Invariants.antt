use Rattle.std.proofs.Common.{length}
use Rattle.report_identities.proofs.Marks.{LeavesLast}
use Rattle.report_identities.proofs.cuts.cut_at_last.Given as goal

abbrev pub invariant-bytes : goal.invariant-bytes
invariant-bytes l = LeavesLast l.mark l.bytes l.rest

abbrev pub decreases-bytes : goal.decreases-bytes
decreases-bytes l = length l.rest
