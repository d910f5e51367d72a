use Rattle.std.proofs.Common.{◌-◌, ◌≤◌}
use Rattle.search_levels.specs.inside.Following.{AreShares}
use Rattle.search_levels.proofs.share.shares.Given as goal

-- the places so far are shared out
abbrev pub invariant-loop-first : goal.invariant-loop-first
invariant-loop-first l = record {
  shared : AreShares 0 l.first l.shares.items;
  within : l.first ≤ l.places;
}

abbrev pub decreases-loop-first : goal.decreases-loop-first
decreases-loop-first l = l.places - l.first
