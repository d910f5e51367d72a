use Rattle.std.proofs.Common.{◌≡◌, ◌++◌, length}
use Rattle.search_jobs.specs.Explorations.{exploration_in, nodes_of_all}
use Rattle.search_jobs.specs.Pieces.{AreOf}
use Rattle.search_expansion.specs.inside.Frames.{nodes_of_frames}
use Rattle.search_expansion.specs.inside.Walks.{IsWalkOf, frames_in}
use Rattle.search_expansion.proofs.walk.Walk.into_rest.Given as goal

-- the jobs so far, and what the walk still leaves
abbrev pub invariant-loop-alloc : goal.invariant-loop-alloc
invariant-loop-alloc l = record {
  nodes : nodes_of_all (exploration_in l.exploration) l.rest.items ++ nodes_of_frames (frames_in l.walk) ≡ nodes_of_frames (frames_in l.initial.walk);
  are_of : AreOf (exploration_in l.exploration) l.rest.items;
  walk_of : IsWalkOf (exploration_in l.exploration) l.walk;
}

abbrev pub decreases-loop-alloc : goal.decreases-loop-alloc
decreases-loop-alloc l = length (nodes_of_frames (frames_in l.walk))
