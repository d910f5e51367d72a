use Rattle.std.proofs.Common.{◌≡◌, ◌+◌, ◌≤◌, vec_len, vec_capacity}
use Rattle.search_crew.proofs.crew.fn.work_together.scope.Given as goal

-- there is room for the workers of the seats that are left, and then for all seats that come back
abbrev pub invariant-loop-seat : goal.invariant-loop-seat
invariant-loop-seat g l = record {
  handles_fit : vec_len l.handles + vec_len l.seats ≤ vec_capacity l.handles;
  seats_fit : vec_len l.handles + vec_len l.seats ≤ vec_capacity l.back;
  none_back : vec_len l.back ≡ 0;
}

abbrev pub decreases-loop-seat : goal.decreases-loop-seat
decreases-loop-seat g l = vec_len l.seats

abbrev pub invariant-loop-handle : goal.invariant-loop-handle
invariant-loop-handle g l = vec_len l.back + vec_len l.handles ≤ vec_capacity l.back

abbrev pub decreases-loop-handle : goal.decreases-loop-handle
decreases-loop-handle g l = vec_len l.handles
