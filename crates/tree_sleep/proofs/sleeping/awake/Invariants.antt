use Rattle.std.proofs.Common.{◌≡◌, filter, not}
use Rattle.tree_coverage.specs.Covers.{is_one_of}
use Rattle.tree_sleep.proofs.sleeping.awake.Given as goal

-- those so far that are awake
abbrev pub invariant-loop-step : goal.invariant-loop-step
invariant-loop-step l = l.awake.items ≡ filter (λ s. not (is_one_of l.slept s)) l.yielded
