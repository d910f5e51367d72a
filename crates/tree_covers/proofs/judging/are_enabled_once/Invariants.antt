use Rattle.std.proofs.Common.{◌≡◌, ◌&&◌, length}
use Rattle.std.specs.List.{list_all}
use Rattle.tree_coverage.specs.Covers.{are_once, is_one_of}
use Rattle.tree_covers.proofs.judging.are_enabled_once.Given as goal

-- what is true of the rest is true of the line
abbrev pub invariant-loop-step : goal.invariant-loop-step
invariant-loop-step l =
    (are_once l.rest && list_all (is_one_of l.enabled) l.rest) ≡ (are_once l.line && list_all (is_one_of l.enabled) l.line)

abbrev pub decreases-loop-step : goal.decreases-loop-step
decreases-loop-step l = length l.rest
