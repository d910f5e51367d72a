use Rattle.std.proofs.Common.{◌≡◌, Some, map, take}
use Rattle.ets_calls.specs.Arguments.{addition_in}
use Rattle.world_model.specs.Objects.{all_added}
use Rattle.ets_answers.specs.inside.Counting.{integer_at}
use Rattle.ets_answers.proofs.counters.integer_after.Given as goal

-- the integer after the additions so far
abbrev pub invariant-loop-earlier : goal.invariant-loop-earlier
invariant-loop-earlier l = Some l.number ≡ integer_at l.position (all_added (map addition_in (take l.earlier-index l.done)) l.object)
