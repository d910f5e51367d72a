use Rattle.std.proofs.Common.{◌≤◌, take}
use Rattle.search_levels.specs.Arrivals.{of_module}
use Rattle.search_levels.specs.Known.{FromNowOn, Grows}
use Rattle.search_levels.specs.inside.Expanding.{LevelSoFar, NotesLevel}
use Rattle.search_levels.specs.inside.Levels.{AreOf}
use Rattle.world_identities.specs.Identities.{flags_in}
use Rattle.search_levels.proofs.advancing.next_in_turn.Given as goal

-- the states so far are expanded, and those of the next level can be read
abbrev pub invariant-loop-place : goal.invariant-loop-place
invariant-loop-place g l = record {
  so_far : FromNowOn g.W.Worlds.follows l.worlds (λ known m. LevelSoFar l.fn.delivery (of_module (g.W.Worlds.agrees known) m) (flags_in l.fn.flags) l.fn.findings (take l.place l.level.rows) l.next.rows l.findings);
  notes : FromNowOn g.W.Worlds.follows l.worlds (λ known m. NotesLevel l.fn.delivery (of_module (g.W.Worlds.agrees known) m) (flags_in l.fn.flags) l.level.rows l.fn.findings l.findings);
  of_known : AreOf (g.W.Worlds.is_of l.worlds) l.next.rows;
  grows : Grows g.W.Worlds.is_of g.W.Worlds.follows l.fn.worlds l.worlds;
  fewer : l.left ≤ l.fn.left;
}
