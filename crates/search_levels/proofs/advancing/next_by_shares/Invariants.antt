use Rattle.std.proofs.Common.{ℕ, ◌≤◌, drop, length, take}
use Rattle.search_levels.specs.Arrivals.{of_module}
use Rattle.search_levels.specs.Known.{FromNowOn, Grows}
use Rattle.search_levels.specs.inside.Expanding.{LevelSoFar, NotesLevel}
use Rattle.search_levels.specs.inside.Following.{AreShares}
use Rattle.search_levels.specs.inside.Levels.{AreOf}
use Rattle.world_identities.specs.Identities.{flags_in}
use Rattle.search_levels.proofs.advancing.next_by_shares.Given as goal

-- the steps from the states of the shares so far are taken, and the others are shared out
abbrev pub invariant-loop-i : goal.invariant-loop-i
invariant-loop-i g l = record {
  so_far : (at : ℕ) × AreShares at (length l.level.rows) (drop l.i l.shares.items) × FromNowOn g.W.Worlds.follows l.worlds (λ known m. LevelSoFar l.fn.delivery (of_module (g.W.Worlds.agrees known) m) (flags_in l.fn.flags) l.fn.findings (take at l.level.rows) l.next.rows l.findings);
  notes : FromNowOn g.W.Worlds.follows l.worlds (λ known m. NotesLevel l.fn.delivery (of_module (g.W.Worlds.agrees known) m) (flags_in l.fn.flags) l.level.rows l.fn.findings l.findings);
  of_known : AreOf (g.W.Worlds.is_of l.worlds) l.next.rows;
  grows : Grows g.W.Worlds.is_of g.W.Worlds.follows l.fn.worlds l.worlds;
  fewer : l.left ≤ l.fn.left;
}
