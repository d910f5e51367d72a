use Rattle.std.proofs.Common.{length}
use Rattle.search_job_lines.proofs.Bars.{IsSought}
use Rattle.search_job_lines.proofs.bar.split_at_bar.Given as goal

-- no bar begins so far
abbrev pub invariant-places : goal.invariant-places
invariant-places l = IsSought l.line l.rest

abbrev pub decreases-places : goal.decreases-places
decreases-places l = length l.rest
