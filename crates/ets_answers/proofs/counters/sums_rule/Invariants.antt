use Rattle.std.proofs.Common.{◌≡◌, ◌≤◌, ◌-◌, None, length, map, take}
use Rattle.ets_calls.specs.Arguments.{addition_in}
use Rattle.world_model.specs.Objects.{sums_rule}
use Rattle.ets_answers.proofs.counters.sums_rule.Given as goal

abbrev pub decreases-loop-index : goal.decreases-loop-index
decreases-loop-index l = length l.additions - l.index

-- none of those so far is refused
abbrev pub invariant-loop-index : goal.invariant-loop-index
invariant-loop-index l = (l.index ≤ length l.additions) × (sums_rule (map addition_in (take l.index l.additions)) l.object ≡ None)
