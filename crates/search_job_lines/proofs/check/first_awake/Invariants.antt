use Rattle.std.proofs.Common.{length}
use Rattle.search_job_lines.proofs.Checks.{IsChecked}
use Rattle.search_job_lines.proofs.check.first_awake.Given as goal

-- each step so far is enabled
abbrev pub invariant-loop-step : goal.invariant-loop-step
invariant-loop-step l = IsChecked l.enabled l.steps l.rest

abbrev pub decreases-loop-step : goal.decreases-loop-step
decreases-loop-step l = length l.rest
