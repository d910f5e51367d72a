use Rattle.std.proofs.Common.{◌≤◌, ◌≡◌, ◌-◌}
use Rattle.search_expansion.specs.inside.Frames.{IsExploring}
use Rattle.search_expansion.specs.inside.Walks.{IsWalk, frames_in}
use Rattle.search_expansion.proofs.expansion.expanded.Given as goal

-- the nodes so far were visited, and the walk leaves the others
abbrev pub invariant-loop-extent : goal.invariant-loop-extent
invariant-loop-extent g l = record {
  exploring : IsExploring l.job.exploration l.job.name l.findings l.extent (frames_in l.walk);
  walk_is : IsWalk l.walk;
  program_is : l.walk.program.now ≡ l.program;
  some : 1 ≤ l.extent.nodes;
  within : l.extent.nodes ≤ l.budget;
}

abbrev pub decreases-loop-extent : goal.decreases-loop-extent
decreases-loop-extent g l = l.budget - l.extent.nodes
