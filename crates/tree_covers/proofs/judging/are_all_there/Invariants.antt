use Rattle.std.proofs.Common.{◌≡◌, ◌++◌, drop}
use Rattle.std.specs.List.{list_all}
use Rattle.tree_coverage.specs.Covers.{is_one_of}
use Rattle.tree_covers.proofs.judging.are_all_there.Given as goal

-- each so far sleeps or is taken
abbrev pub invariant-loop-step : goal.invariant-loop-step
invariant-loop-step l =
    list_all (is_one_of (l.slept ++ l.line)) l.enabled ≡ list_all (is_one_of (l.slept ++ l.line)) (drop l.step-index l.enabled)
