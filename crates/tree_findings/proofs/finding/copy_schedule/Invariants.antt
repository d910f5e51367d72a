use Rattle.std.proofs.Common.{◌≡◌, take}
use Rattle.tree_findings.proofs.finding.copy_schedule.Given as goal

abbrev pub invariant-loop-step : goal.invariant-loop-step
invariant-loop-step l = l.copied.items ≡ take l.step-index l.schedule
