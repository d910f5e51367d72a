use Rattle.std.proofs.Common.{◌≡◌, ◌≤◌, ◌+◌, ◌++◌, reverse, vec_len, vec_capacity}
use Rattle.search_pool.proofs.room.push_all.Given as goal

-- the jobs so far, and then those that are left, for which there is room
abbrev pub invariant-loop-job : goal.invariant-loop-job
invariant-loop-job l = record {
  jobs : l.todo.items ++ reverse l.jobs.items ≡ l.fn.todo.items ++ reverse l.initial.jobs.items;
  room : vec_len l.todo + vec_len l.jobs ≤ vec_capacity l.todo;
}

abbrev pub decreases-loop-job : goal.decreases-loop-job
decreases-loop-job l = vec_len l.jobs
