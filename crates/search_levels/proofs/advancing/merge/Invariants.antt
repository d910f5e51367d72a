use Rattle.std.proofs.Common.{◌-◌, ◌≤◌, drop, slice_range, take}
use Rattle.search_levels.specs.Arrivals.{of_module}
use Rattle.search_levels.specs.Known.{FromNowOn, Grows}
use Rattle.search_levels.specs.inside.Expanding.{GoesFrom, NotesLevel}
use Rattle.search_levels.specs.inside.Following.{AreKnownArrivals, IsMerged}
use Rattle.search_levels.specs.inside.Levels.{AreOf}
use Rattle.world_identities.specs.Identities.{flags_in}
use Rattle.search_levels.proofs.advancing.merge.Given as goal

-- the steps from the states so far are taken
abbrev pub invariant-loop-place : goal.invariant-loop-place
invariant-loop-place g l = record {
  goes_on : FromNowOn g.W.Worlds.follows l.worlds (λ known m. GoesFrom l.fn.delivery (of_module (g.W.Worlds.agrees known) m) (flags_in l.fn.flags) (take l.fn.share.first l.level.rows) (take l.place l.level.rows) l.fn.next.rows l.next.rows l.fn.findings l.findings);
  notes : FromNowOn g.W.Worlds.follows l.worlds (λ known m. NotesLevel l.fn.delivery (of_module (g.W.Worlds.agrees known) m) (flags_in l.fn.flags) l.level.rows l.fn.findings l.findings);
  of_known : AreOf (g.W.Worlds.is_of l.fn.worlds) l.fn.next.rows → AreOf (g.W.Worlds.is_of l.worlds) l.next.rows;
  grows : Grows g.W.Worlds.is_of g.W.Worlds.follows l.fn.worlds l.worlds;
  merged : IsMerged (AreKnownArrivals g.W.Worlds.agrees g.W.Worlds.is_of g.W.Worlds.follows l.fn.worlds l.fn.delivery) l.followed.arrivals l.at (slice_range l.level.rows l.place l.fn.share.last) (drop (l.place - l.fn.share.first) l.followed.ends.items) l.next.rows;
  forward : l.fn.share.first ≤ l.place;
  fewer : l.left ≤ l.fn.left;
}
