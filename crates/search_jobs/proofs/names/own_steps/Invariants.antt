use Rattle.std.proofs.Common.{◌≡◌, take}
use Rattle.search_jobs.proofs.names.own_steps.Given as goal

-- those before this one
abbrev pub invariant-loop-step : goal.invariant-loop-step
invariant-loop-step l = l.own.items ≡ take l.step-index l.steps
