use Rattle.std.proofs.Common.{◌≡◌, ◌++◌, length}
use Rattle.search_levels.specs.inside.Paths.{latest_first}
use Rattle.search_levels.proofs.path.Path.steps.Given as goal

-- the steps so far, with those that are left, are all
abbrev pub invariant-loop-step : goal.invariant-loop-step
invariant-loop-step l = l.steps.items ++ latest_first l.left ≡ latest_first l.fn.self

abbrev pub decreases-loop-step : goal.decreases-loop-step
decreases-loop-step l = length (latest_first l.left)
