use Rattle.std.proofs.Common.{◌≤◌, [], slice_range}
use Rattle.search_levels.specs.inside.Following.{AreFollowed, AreKnownArrivals}
use Rattle.search_levels.proofs.following.follow.Given as goal

-- what follows the states so far is kept
abbrev pub invariant-loop-place : goal.invariant-loop-place
invariant-loop-place g l = record {
  followed : AreFollowed (AreKnownArrivals g.W.Worlds.agrees g.W.Worlds.is_of g.W.Worlds.follows l.fn.worlds l.fn.delivery) [] l.kept.rows 0 (slice_range l.level.rows l.fn.first l.place) l.ends.items;
  forward : l.fn.first ≤ l.place;
}
